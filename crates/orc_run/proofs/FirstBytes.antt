-- What the bytes of a source decide.
use Rattle.std.proofs.Common.{◌≡◌, ◌⊎◌, ℕ, ◌+◌, ◌≤◌, List, ◌++◌, length, take, Option, Some, None, Result, Ok, Err, inl, inr, ⊎_elim, refl, sym, ap, subst, ◌∙◌, arith, append-nil, take_all}
use Rattle.std.specs.Io.KnownBytes.{Consumes, IsAtEnd}
use Rattle.std.proofs.Math.Seq.{take-append_seam}
use Rattle.orc_disk.specs.Meanings.{DiskMeaning}
use Rattle.orc_decls.specs.declared.rule.Rule.{Rule}
use Rattle.orc_bundle.specs.Bundles.{scripted_of}
use Rattle.orc_bundle.specs.declared.scripted.ScriptedBundle.{ScriptedBundle}
use Rattle.orc_lines.specs.declared.lines.TheConstants.{LARGEST_BUNDLE}
use Rattle.orc_run.specs.Decided.{BytesDecide, EndsDecided, bundle_bytes}
use Rattle.orc_run.specs.Ends.{EndsAs, EndsBy, GivesBundle, GivesBundleFor, GivesFault, GivesFaultFor, GivesFirst, Outside}
use Rattle.orc_run.specs.declared.stop.Done.{Done}
use Rattle.orc_run.specs.declared.stop.Stop.{Stop}
use Rattle.orc_run.specs.declared.stop.Stop.TheVariants as ending
use Rattle.orc_words.specs.declared.words.Command.{Command}
use Rattle.orc_words.specs.declared.words.Command.TheVariants.{Check, Run, History, Gen}

few_or_more : (n : ℕ) → n ≤ LARGEST_BUNDLE + 1 → (n ≤ LARGEST_BUNDLE) ⊎ (n ≡ LARGEST_BUNDLE + 1)
few_or_more n most = grind (arith, most)

-- the bytes that were given are the first ones
first_is : (left now : Option (List ℕ)) (all bytes : List ℕ) → left ≡ Some all → GivesFirst left now bytes → bytes ≡ take (LARGEST_BUNDLE + 1) all
first_is left now all bytes told first = on now (subst (λ (o : Option (List ℕ)). Consumes o now bytes) told first.given) first.end
  where
    on : (n : Option (List ℕ)) → Consumes (Some all) n bytes → (length bytes ≤ LARGEST_BUNDLE → IsAtEnd n) → bytes ≡ take (LARGEST_BUNDLE + 1) all
    on None given end = absurd given
    on (Some rest) given end = ⊎_elim
        (λ (few : length bytes ≤ LARGEST_BUNDLE).
        let whole : all ≡ bytes = given ∙ ap (λ (l : List ℕ). bytes ++ l) (end few) ∙ append-nil bytes in
        sym (take_all (LARGEST_BUNDLE + 1) bytes (omega (arith, few))) ∙ ap (take (LARGEST_BUNDLE + 1)) (sym whole))
        (λ (more : length bytes ≡ LARGEST_BUNDLE + 1).
        sym (take-append_seam bytes rest) ∙ ap (λ (n : ℕ). take n (bytes ++ rest)) more ∙ ap (take (LARGEST_BUNDLE + 1)) (sym given))
        (few_or_more (length bytes) first.most)

module _ {D : Type 0} (meaning : DiskMeaning D) where
  module _ (before after : Outside D) (all : List ℕ) (told : before.left ≡ Some all) where
    -- what was done with a bundle says that there was one
    gave : (command : Command) (status : Result Done Stop) → EndsAs meaning command before after status
        → (bundle : ScriptedBundle) × GivesBundleFor command before.left after.left bundle
    gave Check status ends = (ends.bundle, ends.gives)
    gave Run status ends = (ends.bundle, ends.gives)
    gave History status ends = (ends.bundle, ends.gives)
    gave (Gen number devices calls) status ends = (ends.bundle, (ends.made, ends.unread))

    read_fault : (line : ℕ) (rule : Rule) → GivesFault before.left after.left line rule → scripted_of (take (LARGEST_BUNDLE + 1) all) ≡ Err (line, rule)
    read_fault line rule gives = ap scripted_of (sym (first_is before.left after.left all gives.bytes told gives.first)) ∙ gives.is

    read_bundle : (bundle : ScriptedBundle) → GivesBundle before.left after.left bundle → scripted_of (take (LARGEST_BUNDLE + 1) all) ≡ Ok bundle
    read_bundle bundle gives = ap scripted_of (sym (first_is before.left after.left all gives.bytes told gives.first)) ∙ gives.is

    pub fault_is : (command : Command) (line : ℕ) (rule : Rule) → GivesFaultFor command before.left after.left line rule
        → scripted_of (bundle_bytes command all) ≡ Err (line, rule)
    fault_is Check line rule gives = read_fault line rule gives
    fault_is Run line rule gives = read_fault line rule gives
    fault_is History line rule gives = read_fault line rule gives
    fault_is (Gen number devices calls) line rule gives = gives.0

    pub bundle_is : (command : Command) (bundle : ScriptedBundle) → GivesBundleFor command before.left after.left bundle
        → scripted_of (bundle_bytes command all) ≡ Ok bundle
    bundle_is Check bundle gives = read_bundle bundle gives
    bundle_is Run bundle gives = read_bundle bundle gives
    bundle_is History bundle gives = read_bundle bundle gives
    bundle_is (Gen number devices calls) bundle gives = gives.0

    -- a status that isn't Bundle, where there was one
    with_bundle : (command : Command) (status : Result Done Stop) → ((line : ℕ) (rule : Rule) → status ≡ Err (ending.Bundle line rule) → ⊥)
        → (bundle : ScriptedBundle) × GivesBundleFor command before.left after.left bundle → EndsDecided (scripted_of (bundle_bytes command all)) status
    with_bundle command status other gives = subst (λ (r : Result ScriptedBundle (ℕ × Rule)). EndsDecided r status) (sym (bundle_is command gives.0 gives.1)) other

    -- a status where the first bytes may not all have been read
    without : (command : Command) (status : Result Done Stop) → (status ≡ Err ending.ReadFault) ⊎ (status ≡ Err ending.Memory) → ((line : ℕ) (rule : Rule) → status ≡ Err (ending.Bundle line rule) → ⊥)
        → EndsDecided (scripted_of (bundle_bytes command all)) status
    without command status which other = on (scripted_of (bundle_bytes command all))
      where
        on : (r : Result ScriptedBundle (ℕ × Rule)) → EndsDecided r status
        on (Ok bundle) = other
        on (Err fault) = inr which

    decided : (command : Command) (status : Result Done Stop) → EndsBy meaning (Some command) before after status → EndsDecided (scripted_of (bundle_bytes command all)) status
    decided command (Ok done) ends = with_bundle command (Ok done) (λ line rule e. absurd cc) (gave command (Ok done) ends)
    decided command (Err (ending.Bundle line rule)) ends = subst (λ (r : Result ScriptedBundle (ℕ × Rule)). EndsDecided r (Err (ending.Bundle line rule))) (sym (fault_is command line rule ends)) (inl refl)
    decided command (Err ending.Usage) ends = absurd ends
    decided command (Err ending.ReadFault) ends = without command (Err ending.ReadFault) (inl refl) (λ line rule e. absurd cc)
    decided command (Err ending.Memory) ends = without command (Err ending.Memory) (inr refl) (λ line rule e. absurd cc)
    decided command (Err ending.WriteFault) ends = with_bundle command (Err ending.WriteFault) (λ line rule e. absurd cc) (gave command (Err ending.WriteFault) ends)
    decided command (Err ending.JournalFault) ends = with_bundle command (Err ending.JournalFault) (λ line rule e. absurd cc) (gave command (Err ending.JournalFault) ends)
    decided command (Err (ending.Foreign at)) ends = with_bundle command (Err (ending.Foreign at)) (λ line rule e. absurd cc) (gave command (Err (ending.Foreign at)) ends)
    decided command (Err (ending.Full len)) ends = with_bundle command (Err (ending.Full len)) (λ line rule e. absurd cc) (gave command (Err (ending.Full len)) ends)
    decided command (Err ending.NotJournal) ends = with_bundle command (Err ending.NotJournal) (λ line rule e. absurd cc) (gave command (Err ending.NotJournal) ends)
    decided command (Err (ending.Damaged at)) ends = with_bundle command (Err (ending.Damaged at)) (λ line rule e. absurd cc) (gave command (Err (ending.Damaged at)) ends)

pub bytes_decide : {D : Type 0} (meaning : DiskMeaning D) → BytesDecide meaning
bytes_decide meaning command before after status all told ends = decided meaning before after all told command status ends
