-- What a sink took of texts.
use Rattle.std.proofs.Common.{◌≡◌, ℕ, suc, ◌+◌, List, [], ◌∷◌, ◌++◌, length, take, None, Some, Ok, Err, Result, Option, refl, sym, ap, subst, ◌∙◌, arith, append-nil, append_assoc}
use Rattle.std.specs.List.{flat_map}
use Rattle.std.specs.Io.KnownBytes.{Appends}
use Rattle.orc_io.specs.Pieces.{TakesFront}
use Rattle.orc_io.proofs.Fronts.{Appends-trans}
use Rattle.orc_run.specs.Ends.{TookUpToLast, Wrote}
use Rattle.orc_run.specs.declared.stop.Done.{Done}
use Rattle.orc_run.specs.declared.stop.Stop.{Stop}
use Rattle.orc_run.specs.declared.stop.Stop.TheVariants as ending

-- texts, one after the other
abbrev pub all_of : List (List ℕ) → List ℕ
all_of texts = flat_map (λ text. text) texts

pub all_more : (texts : List (List ℕ)) (text : List ℕ) → all_of (texts ++ text ∷ []) ≡ all_of texts ++ text
all_more [] text = append-nil text
all_more (first ∷ later) text = ap (λ (l : List ℕ). first ++ l) (all_more later text) ∙ sym (append_assoc first (all_of later) text)

-- a sink that took all so far and then a prefix of more took a prefix of all
pub begins_more : (a b c : Option (List ℕ)) (before text : List ℕ) → Appends a b before → TakesFront b c text → TakesFront a c (before ++ text)
begins_more a b c before text taken more =
    let k = more.0 in
    let cut : take (length before + k) (before ++ text) ≡ before ++ take k text = take_append_more before text k in
    (length before + k, subst (Appends a c) (sym cut) (Appends-trans a b c before (take k text) taken more.1))
  where
    take_append_more : (xs ys : List ℕ) (k : ℕ) → take (length xs + k) (xs ++ ys) ≡ xs ++ take k ys
    take_append_more [] ys k = ap (λ n. take n ys) (omega arith)
    take_append_more (x ∷ xs) ys k =
        let e : suc (length xs) + k ≡ suc (length xs + k) = omega arith in
        ap (λ n. take n (x ∷ (xs ++ ys))) e ∙ ap (λ l. x ∷ l) (take_append_more xs ys k)

-- a sink that took nothing
pub takes_nothing : (a : Option (List ℕ)) → Appends a a []
takes_nothing None = tt
takes_nothing (Some held) = sym (append-nil held)

-- how a status fits what a run prints after what was printed before
pub wrote_more : (a b c : Option (List ℕ)) (before text : List ℕ) (end : Option Stop) (status : Result Done Stop)
    → Appends a b before → Wrote b c text end status → Wrote a c (before ++ text) end status
wrote_more a b c before text end (Ok done) taken wrote = (wrote.0, Appends-trans a b c before text taken wrote.1)
wrote_more a b c before text end (Err ending.WriteFault) taken wrote = begins_more a b c before text taken wrote
wrote_more a b c before text end (Err other) taken wrote = (wrote.0, Appends-trans a b c before text taken wrote.1)

-- what a sink took up to the last text, after another one
pub took_behind : (a b c : Option (List ℕ)) (first : List ℕ) (texts : List (List ℕ)) → Appends a b first → TookUpToLast texts b c
    → TookUpToLast (first ∷ texts) a c
took_behind a b c first texts taken took = record {
  before = first ∷ took.before;
  last = took.last;
  parts = ap (λ (l : List (List ℕ)). first ∷ l) took.parts;
  between = took.between;
  took_before = Appends-trans a b took.between first (all_of took.before) taken took.took_before;
  took_last = took.took_last;
}

-- nothing was written but a prefix of the one text
pub took_one : (a b : Option (List ℕ)) (text : List ℕ) → TakesFront a b text → TookUpToLast (text ∷ []) a b
took_one a b text front = record { before = []; last = text; parts = refl; between = a; took_before = takes_nothing a; took_last = front }
