-- The version of the C interface, in two octets.
use Rattle.std.specs.Prelude.{ℕ, ◌+◌, ◌*◌}

-- with another number here, a program that was compiled with the header of before does not fit the library
abbrev pub generation : ℕ
generation = 2

-- what was added since and leaves such programs as they are: calls, answers, fields behind the record
abbrev pub addition : ℕ
addition = 2

abbrev pub interface_version : ℕ
interface_version = generation * 256 + addition
