-- What a fetch sent, read by the frame reader, gives back the record's blocks: the outgoing buffer then begins with the LACPDU that was
-- written from them. Assumes nothing.
use Prim.Native.Nat.{ℕ, ◌+◌, ◌-◌, ◌≤◌}
use mathlib.Core.Path.{◌≡◌, ap, ◌∙◌}
use mathlib.Core.List.{List}
use native.Mathlib.Omega.{arith}
use lib.ListN.{drop}
use Rattle.std.specs.Prelude.{Ok}
use Rattle.frame.specs.Class.{frame_size}
use Rattle.frame.proofs.WireLaws.{actor-back, partner-back, lacpdu-passes}
use Rattle.port.specs.Record.{actor_block}
use Rattle.port.specs.Transmit.{due}
use Rattle.table.specs.Layout.{header_of}
use Rattle.table.specs.Table.{port_at, ours, state_of}
use Rattle.work.specs.Work.{lacpdu_of, written_over}
use Rattle.control.specs.Answer.{Answer, with_room, due_answer}
use Rattle.control.specs.declared.answer.Accepted.TheVariants.{Done}
use Rattle.control.specs.Call.{fetch}
use Rattle.control.specs.After.{answer, unless, written_by, outgoing}
use Rattle.control.specs.Accepted.{accepted}
use Rattle.control.proofs.CallLaws.{on-port}
use Rattle.claims.specs.ReadBack.{Reads, ReadBack}

module _ (t : List ℕ) (n : ℕ) (out : List ℕ) (e : answer (fetch n out) t ≡ Ok Done) where
  number : (n - 1) + 1 ≡ n
  unfolding answer
  number = let some : 1 ≤ n = (on-port t n (with_room out (due_answer (due (port_at t (n - 1))))) (ap accepted e)).0.some in omega arith

  sent : outgoing (fetch n out) t ≡ written_over (lacpdu_of (state_of t) (n - 1)) out
  unfolding outgoing written_by
  sent = ap (λ (a : Answer). unless a out (written_over (lacpdu_of (state_of t) (n - 1)) out)) e

  reads : Reads t n (written_over (lacpdu_of (state_of t) (n - 1)) out)
  unfolding lacpdu_of
  reads =
      let p = port_at t (n - 1) in
      let us = actor_block (ours t).system ((n - 1) + 1) p in
      record {
        kind = lacpdu-passes p.own.address us p.partner (header_of t).delay (drop frame_size out);
        actor =
            actor-back p.own.address us p.partner (header_of t).delay (drop frame_size out)
            ∙ ap (λ (m : ℕ). actor_block (ours t).system m p) number;
        partner = partner-back p.own.address us p.partner (header_of t).delay (drop frame_size out);
      }

pub read_back : ReadBack
read_back t n out e = rw (sent t n out e) (reads t n out e)
