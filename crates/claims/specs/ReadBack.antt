-- What a fetch sent, read as a frame.
use Rattle.std.specs.Prelude.{ℕ, ◌-◌, ◌≡◌, List, Ok}
use Rattle.frame.specs.declared.class.Kind.TheVariants.{Lacpdu}
use Rattle.frame.specs.Class.{class_of}
use Rattle.frame.specs.Block.{block_of}
use Rattle.frame.specs.Wire.{actor_part, partner_part}
use Rattle.port.specs.Record.{actor_block}
use Rattle.table.specs.Table.{port_at, ours}
use Rattle.control.specs.declared.answer.Accepted.TheVariants.{Done}
use Rattle.control.specs.Call.{fetch}
use Rattle.control.specs.After.{answer, outgoing}

-- it is an LACPDU, and its two information blocks are what the record of port n says of itself and of its partner
pub record Reads (t : List ℕ) (n : ℕ) (frame : List ℕ) : Type 0 where
  pub kind : class_of frame ≡ Ok Lacpdu
  pub actor : block_of (actor_part frame) ≡ actor_block (ours t).system n (port_at t (n - 1))
  pub partner : block_of (partner_part frame) ≡ (port_at t (n - 1)).partner

-- 5: in any memory
abbrev pub ReadBack : Type 0
ReadBack = (t : List ℕ) (n : ℕ) (out : List ℕ) → answer (fetch n out) t ≡ Ok Done → Reads t n (outgoing (fetch n out) t)
