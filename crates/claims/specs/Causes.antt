-- What the reports beyond R15 say of the run of the witness, computed: every cause, who waits for whom, and reasons.
use Rattle.std.specs.Prelude.{ℕ, ◌≡◌, true, List, [], ◌∷◌, map, Some, None}
use Rattle.port.specs.Compared.{compared}
use Rattle.table.specs.Table.{ports, ours}
use Rattle.why.specs.declared.cause.Cause.TheVariants.{HeldBack}
use Rattle.why.specs.Cause.{cause_number}
use Rattle.why.specs.Apart.{apart_of, apart_number}
use Rattle.control.specs.Call.{line, configure}
use Rattle.control.specs.After.{after}
use Rattle.claims.specs.Run.{run}
use Rattle.claims.specs.Told.{why_in}
use Rattle.claims.specs.Speakers.{keyed_settings, up_full, up_half}
use Rattle.claims.specs.Witness.{hears, ticks, begun, trunk, parted, narrowed, fallen, halved, rekeyed, silent, indices}

-- of port i, and of ports i and j, from 0
abbrev pub cause_in : List ℕ → ℕ → ℕ
cause_in t i = cause_number (why_in t i).cause

abbrev pub causes_in : List ℕ → List ℕ
causes_in t = map (cause_in t) indices

abbrev pub apart_in : List ℕ → ℕ → ℕ → ℕ
apart_in t i j = apart_number (apart_of (ours t) (map compared (ports t)) i j)

-- port 2 hears its partner ten ticks after port 1 did, and ten ticks later holds it back
unfoldable pub held_up : List ℕ
held_up = run begun (line 1 up_full ∷ line 2 up_full ∷ hears 1 1 0x3F ∷ ticks 10 (hears 1 2 0x3F ∷ ticks 10 []))

-- port 1 at half duplex, with a default block that lets it carry
unfoldable pub by_word : List ℕ
by_word = run begun (configure 1 (keyed_settings 1 true 0x3C) ∷ line 1 up_half ∷ ticks 20 [])

-- nobody is heard on port 1
unfoldable pub unanswered : List ℕ
unanswered = run begun (line 1 up_full ∷ ticks 30 [])

pub record Causes : Type 0 where
  pub at-start : causes_in begun ≡ 3 ∷ 3 ∷ 3 ∷ []
  pub in_trunk : causes_in trunk ≡ 1 ∷ 1 ∷ 7 ∷ []
  pub in_narrowed : causes_in narrowed ≡ 1 ∷ 10 ∷ 7 ∷ []
  pub in_unsynced : causes_in (after (hears 1 2 0x07) trunk) ≡ 1 ∷ 9 ∷ 7 ∷ []
  pub in_parted : causes_in parted ≡ 7 ∷ 7 ∷ 7 ∷ []
  pub in_fallen : causes_in fallen ≡ 3 ∷ 1 ∷ 7 ∷ []
  pub in_halved : causes_in halved ≡ 4 ∷ 7 ∷ 7 ∷ []
  pub in_rekeyed : causes_in rekeyed ≡ 1 ∷ 7 ∷ 7 ∷ []
  pub in_silent : causes_in silent ≡ 6 ∷ 6 ∷ 9 ∷ []
  pub in_unanswered : causes_in unanswered ≡ 5 ∷ 3 ∷ 3 ∷ []
  pub held_up_lem : causes_in held_up ≡ 8 ∷ 7 ∷ 3 ∷ []
  pub by_word_lem : causes_in by_word ≡ 2 ∷ 3 ∷ 3 ∷ []
  -- ticks of its own, and of the port that holds it back
  pub own-ticks : ((why_in trunk 2).holder ≡ None) × ((why_in trunk 2).ticks ≡ 10)
  pub held_cause : (why_in held_up 0).cause ≡ Some HeldBack
  pub held-ticks : ((why_in held_up 0).holder ≡ Some 2) × ((why_in held_up 0).ticks ≡ 10)
  -- both partners individual; none; another partner's key; another key; another partner; and a port and itself
  pub apart : apart_in begun 0 1 ∷ apart_in trunk 0 1 ∷ apart_in trunk 0 2 ∷ apart_in rekeyed 0 1 ∷ apart_in parted 0 1 ∷ [] ≡ 0x12 ∷ 0 ∷ 0x200 ∷ 0x40 ∷ 0x100 ∷ []
  pub itself : apart_in begun 1 1 ≡ 0
