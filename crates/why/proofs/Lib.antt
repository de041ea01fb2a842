pub mod CauseLaws
pub mod ApartLaws
