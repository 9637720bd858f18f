-- Each state of the machine without a fault in it has a text that goes on from it to an end.
use Rattle.std.proofs.Common.{◌≡◌, ℕ, true, List, [], ◌∷◌, Option, Some, None, Ok, refl}
use Rattle.std.specs.Str.{all_scalars}
use Rattle.orc_yang.specs.declared.fault.YangFault.{YangFault}
use Rattle.orc_yang.specs.declared.statement.Stmt.{Stmt}
use Rattle.orc_yang.specs.declared.parser.Frame.{Frame}
use Rattle.orc_yang.specs.Text.{placed}
use Rattle.orc_yang.specs.Machine.{Spot, Between, Keyed, Worded, Strung, Joining, Work, Gap, Slashed, InLine, InBlock, BehindStar, InKeyword, BehindColon, InSecond, Lone, WordSlash, WordStar, InWord, InSingle, InDouble, BehindBackslash, Machine, run, ended}

-- a text that goes on from this state to an end, wherever it stands
abbrev pub Accepts : Machine → Type 0
Accepts s = (more : List ℕ) × (list : List Stmt) × (all_scalars more ≡ true) × ((at column end : ℕ) → run (placed at column more) s end ≡ Ok list)

-- the fault that waits for the end of a string or comment
abbrev pub pending : Work → Option YangFault
pending (InBlock spot o p) = p
pending (BehindStar spot o p) = p
pending (InSingle h a o p) = p
pending (InDouble h a o column raw p) = p
pending (BehindBackslash h a o column raw p) = p
pending _ = None

pub closes : (fs : List Frame) (done : List Stmt) → Accepts (record { work = Gap Between; done = done; frames = fs })
closes [] done = ([], done, refl, λ at column end. refl)
closes (f ∷ fs) done = let r = closes fs (ended f done) in (125 ∷ r.0, r.1, r.2, λ at column end. r.3 _ _ end)

module _ (done : List Stmt) (frames : List Frame) where
  abbrev pub S : Work → Machine
  S w = record { work = w; done = done; frames = frames }

  pub accept_gap : (spot : Spot) → Accepts (S (Gap spot))
  accept_gap Between = closes frames done
  accept_gap (Keyed h) = let r = closes frames _ in (59 ∷ r.0, r.1, r.2, λ at column end. r.3 _ _ end)
  accept_gap (Worded h a) = let r = closes frames _ in (59 ∷ r.0, r.1, r.2, λ at column end. r.3 _ _ end)
  accept_gap (Strung h a) = let r = closes frames _ in (59 ∷ r.0, r.1, r.2, λ at column end. r.3 _ _ end)
  accept_gap (Joining h a) = let r = closes frames _ in (39 ∷ 39 ∷ 59 ∷ r.0, r.1, r.2, λ at column end. r.3 _ _ end)

  accept : (w : Work) → pending w ≡ None → Accepts (S w)
  accept (Gap spot) q = accept_gap spot
  accept (Slashed spot o) q = let r = accept_gap spot in (47 ∷ 10 ∷ r.0, r.1, r.2, λ at column end. r.3 _ _ end)
  accept (InLine spot) q = let r = accept_gap spot in (10 ∷ r.0, r.1, r.2, λ at column end. r.3 _ _ end)
  accept (InBlock spot o None) q = let r = accept_gap spot in (42 ∷ 47 ∷ r.0, r.1, r.2, λ at column end. r.3 _ _ end)
  accept (InBlock spot o (Some f)) q = cc
  accept (BehindStar spot o None) q = let r = accept_gap spot in (47 ∷ r.0, r.1, r.2, λ at column end. r.3 _ _ end)
  accept (BehindStar spot o (Some f)) q = cc
  accept (InKeyword h) q = let r = closes frames _ in (59 ∷ r.0, r.1, r.2, λ at column end. r.3 _ _ end)
  accept (BehindColon h) q = let r = closes frames _ in (97 ∷ 59 ∷ r.0, r.1, r.2, λ at column end. r.3 _ _ end)
  accept (InSecond h) q = let r = closes frames _ in (59 ∷ r.0, r.1, r.2, λ at column end. r.3 _ _ end)
  accept (Lone h a o) q = let r = closes frames _ in (59 ∷ r.0, r.1, r.2, λ at column end. r.3 _ _ end)
  accept (WordSlash h a) q = let r = closes frames _ in (59 ∷ r.0, r.1, r.2, λ at column end. r.3 _ _ end)
  accept (WordStar h a) q = let r = closes frames _ in (59 ∷ r.0, r.1, r.2, λ at column end. r.3 _ _ end)
  accept (InWord h a) q = let r = closes frames _ in (59 ∷ r.0, r.1, r.2, λ at column end. r.3 _ _ end)
  accept (InSingle h a o None) q = let r = closes frames _ in (39 ∷ 59 ∷ r.0, r.1, r.2, λ at column end. r.3 _ _ end)
  accept (InSingle h a o (Some f)) q = cc
  accept (InDouble h a o column raw None) q = let r = closes frames _ in (34 ∷ 59 ∷ r.0, r.1, r.2, λ at col end. r.3 _ _ end)
  accept (InDouble h a o column raw (Some f)) q = cc
  accept (BehindBackslash h a o column raw None) q = let r = closes frames _ in (110 ∷ 34 ∷ 59 ∷ r.0, r.1, r.2, λ at col end. r.3 _ _ end)
  accept (BehindBackslash h a o column raw (Some f)) q = cc

pub accepts : (s : Machine) → pending s.work ≡ None → Accepts s
accepts s q = accept s.done s.frames s.work q
