-- A run by the rules of what is granted is one by those of what isn't, and the other way round where each recovery goes on
-- from what had been written.
use Rattle.std.proofs.Common.{◌≡◌, inl, inr, ℕ, Bool, true, false, Option, Some, None, List, [], ◌∷◌, ◌++◌, ap}
use Rattle.std.specs.List.{flat_map}
use Rattle.orc_decls.specs.declared.declarations.Decls.{Decls}
use Rattle.orc_device.specs.Nodes.{DeviceKind}
use Rattle.orc_disk.specs.Meanings.{DiskMeaning}
use Rattle.orc_journal.specs.declared.entry.Entry.{Entry}
use Rattle.orc_rules.specs.Events.{DoesUnderHub, Steps, Turn}
use Rattle.orc_rules.specs.Hubs.{Hub}
use Rattle.orc_rules.specs.Journals.{Journal, Reopens, entries_read}
use Rattle.orc_rules.specs.Laws.{setting}
use Rattle.orc_rules.specs.Worlds.{Setting, World}
use Rattle.orc_rules.specs.declared.event.Event.{Event}
use Rattle.orc_rules.specs.declared.event.Event.TheVariants as event
use Rattle.orc_runs.specs.Ends.{EndOfRun, EndedBecause, IsEndedBy, IsFullAt}
use Rattle.orc_runs.specs.Runs.{AreDone, EndsFor, EndsIn, IsDone, LineDone, line_list}
use Rattle.orc_runs.specs.Scripts.{Goes, IsCalledFor, IsStill, MayCome, NoneOf, Part, Part as part, line_parts, round, set_by}
use Rattle.orc_runs.proofs.Lasting.{Each}
use Rattle.orc_run.proofs.Among.{each_split}

-- where it is a recovery, it goes on from what had been written
abbrev pub IsWritten : {D : Type 0} → Turn D → Type 0
IsWritten turn = turn.seen ≡ Some event.Recover → turn.behind.journal.synced ≡ entries_read turn.before.journal

module _ {D : Type 0} (disk : DiskMeaning D) (decls : Decls) (kinds : ℕ → DeviceKind) (limit : ℕ) where
  -- where so much is granted
  abbrev pub under : Bool → Setting D
  under granted = setting disk decls kinds limit granted

  -- what comes under a hub doesn't ask what is granted
  does_so : (old new : Bool) (world : World D) (hub : Hub) (meant : Event) (entries : List Entry) (next : World D)
      → DoesUnderHub (under old) world hub meant entries next → DoesUnderHub (under new) world hub meant entries next
  does_so old new world hub meant entries next (DoesUnderHub.begins caller) = DoesUnderHub.begins caller
  does_so old new world hub meant entries next (DoesUnderHub.answers call front said asked a b c) = DoesUnderHub.answers call front said asked a b c
  does_so old new world hub meant entries next (DoesUnderHub.queues it front a b c d e f g h i j) = DoesUnderHub.queues it front a b c d e f g h i j
  does_so old new world hub meant entries next (DoesUnderHub.turns_away place it said a b c d) = DoesUnderHub.turns_away place it said a b c d
  does_so old new world hub meant entries next (DoesUnderHub.admits place it sets a b c d e) = DoesUnderHub.admits place it sets a b c d e
  does_so old new world hub meant entries next (DoesUnderHub.performs device op happened a b c d) = DoesUnderHub.performs device op happened a b c d
  does_so old new world hub meant entries next (DoesUnderHub.leaves_unsent device changes a b) = DoesUnderHub.leaves_unsent device changes a b
  does_so old new world hub meant entries next (DoesUnderHub.reports device op reply a) = DoesUnderHub.reports device op reply a
  does_so old new world hub meant entries next (DoesUnderHub.commits place it a b c d e) = DoesUnderHub.commits place it a b c d e
  does_so old new world hub meant entries next (DoesUnderHub.aborts place it said a b c d) = DoesUnderHub.aborts place it said a b c d
  does_so old new world hub meant entries next (DoesUnderHub.settles place it a b c) = DoesUnderHub.settles place it a b c
  does_so old new world hub meant entries next DoesUnderHub.stops = DoesUnderHub.stops
  does_so old new world hub meant entries next (DoesUnderHub.mends numbers a b) = DoesUnderHub.mends numbers a b
  does_so old new world hub meant entries next (DoesUnderHub.mended numbers a b c d) = DoesUnderHub.mended numbers a b c d
  does_so old new world hub meant entries next (DoesUnderHub.finds_no_memory a b c) = DoesUnderHub.finds_no_memory a b c
  does_so old new world hub meant entries next (DoesUnderHub.fails_to_mend met a b) = DoesUnderHub.fails_to_mend met a b

  -- a recovery that goes on from what had been written
  reopens_so : (old new : Bool) (before behind : Journal D) → behind.synced ≡ entries_read before
      → Reopens disk decls limit old before behind → Reopens disk decls limit new before behind
  reopens_so old new before behind written is = record {
    journal = is.journal;
    opened = is.opened;
    on = is.on;
    stood = is.stood;
    legal = is.legal;
    synced = λ back. written;
    cut = is.cut;
    unarmed = is.unarmed;
    outlives = is.outlives;
  }

  steps_so : (old new : Bool) (before : World D) (meant : Event) (seen : Option Event) (behind : World D)
      → (seen ≡ Some event.Recover → behind.journal.synced ≡ entries_read before.journal)
      → Steps (under old) before meant seen behind → Steps (under new) before meant seen behind
  steps_so old new before meant seen behind written (Steps.done hub entries next _ up does appends is) =
      Steps.done hub entries next behind up (does_so old new before hub meant entries next does) appends is
  steps_so old new before meant seen behind written (Steps.cut hub entries next _ up does appends is) =
      Steps.cut hub entries next behind up (does_so old new before hub meant entries next does) appends is
  steps_so old new before meant seen behind written (Steps.failed hub entries next _ up does appends is) =
      Steps.failed hub entries next behind up (does_so old new before hub meant entries next does) appends is
  steps_so old new before meant seen behind written (Steps.full hub entries next len _ up does appends is) =
      Steps.full hub entries next len behind up (does_so old new before hub meant entries next does) appends is
  steps_so old new before meant seen behind written (Steps.anyway _ does) = Steps.anyway behind does
  steps_so old new before meant seen behind written (Steps.unopened _ down recover stays is) = Steps.unopened behind down recover stays is
  steps_so old new before meant seen behind written (Steps.recovers _ down recover reopens is) =
      Steps.recovers behind down recover
      (reopens_so old new before.journal behind.journal (written (ap (λ (e : Event). Some e) recover)) reopens) is

  may_so : (old new : Bool) (world : World D) (one : Event) → MayCome (under old) world one → MayCome (under new) world one
  may_so old new world one (inl (hub, entries, next, up, does)) = inl (hub, entries, next, up, does_so old new world hub one entries next does)
  may_so old new world one (inr (inl anyway)) = inr (inl anyway)
  may_so old new world one (inr (inr recover)) = inr (inr recover)

  none_so : (old new : Bool) (world : World D) (one : Part) → NoneOf (under old) world one → NoneOf (under new) world one
  none_so old new world part.Rounds none = none
  none_so old new world (part.FirstSnapshot caller) none = none
  none_so old new world part.Beginning none = none
  none_so old new world part.Ending none = none
  none_so old new world other none = λ one is may. none one is (may_so new old world one may)

  called_so : (old new : Bool) (world : World D) (one : Part) → IsCalledFor (under old) world one → IsCalledFor (under new) world one
  called_so old new world (part.FirstSnapshot caller) called = called
  called_so old new world other called = called

  still_so : (old new : Bool) (world : World D) → IsStill (under old) world → IsStill (under new) world
  still_so old new world still = λ device. (
    none_so old new world part.Admission (still device).0,
    none_so old new world (part.Operation device) (still device).1,
    none_so old new world (part.Hearing device) (still device).2,
    none_so old new world part.Decisions (still device).3,
  )

  goes_so : (old new : Bool) (ended : Bool) (parts : List Part) (world : World D) (turns : List (Turn D)) (last : World D) → Each IsWritten turns
      → Goes (under old) ended parts world turns last → Goes (under new) ended parts world turns last
  goes_so old new ended parts world turns last written (Goes.whole _) = Goes.whole world
  goes_so old new ended parts world turns last written (Goes.broken _ _ is) = Goes.broken parts world is
  goes_so old new ended parts world turns last written (Goes.once one later turn more _ once next called comes goes) =
      Goes.once one later turn more last once next (called_so old new turn.before one called)
      (steps_so old new turn.before turn.meant turn.seen turn.behind written.0 comes)
      (goes_so old new ended later turn.behind more last written.1 goes)
  goes_so old new ended parts world turns last written (Goes.again one later turn more _ again next comes goes) =
      Goes.again one later turn more last again next
      (steps_so old new turn.before turn.meant turn.seen turn.behind written.0 comes)
      (goes_so old new ended (one ∷ later) turn.behind more last written.1 goes)
  goes_so old new ended parts world turns last written (Goes.none one later _ _ _ none goes) =
      Goes.none one later world last turns (none_so old new world one none) (goes_so old new ended later world turns last written goes)
  goes_so old new ended parts world turns last written (Goes.round_more later _ _ _ goes) =
      Goes.round_more later world last turns (goes_so old new ended (round decls ++ part.Rounds ∷ later) world turns last written goes)
  goes_so old new ended parts world turns last written (Goes.still later _ _ _ still goes) =
      Goes.still later world last turns (still_so old new world still) (goes_so old new ended later world turns last written goes)

  done_so : (old new : Bool) (ended : Bool) (line : LineDone D) → Each IsWritten line.turns → IsDone (under old) ended line → IsDone (under new) ended line
  done_so old new ended line written is = record {
    goes = goes_so old new ended (line_parts decls line.step) (set_by line.step line.before) line.turns line.behind written is.goes;
    prints = is.prints;
    ends = is.ends;
  }

  pub lines_so : (old new : Bool) (first : World D) (lines : List (LineDone D)) (end : Option (LineDone D)) (middle last : World D)
      → Each IsWritten (flat_map (λ line. line.turns) (lines ++ line_list end))
      → AreDone (under old) first lines middle → EndsIn (under old) middle end last
      → AreDone (under new) first lines middle × EndsIn (under new) middle end last
  lines_so old new first [] None middle last written are ends = (are, ends)
  lines_so old new first [] (Some line) middle last written are ends =
      (are, (ends.0, done_so old new true line (each_split IsWritten line.turns [] written).0 ends.1, ends.2))
  lines_so old new first (line ∷ lines) end middle last written are ends =
      let both = each_split IsWritten line.turns (flat_map (λ it. it.turns) (lines ++ line_list end)) written in
      let rest = lines_so old new line.behind lines end middle last both.1 are.2 ends in
      ((are.0, done_so old new false line both.0 are.1, rest.0), rest.1)

  full_so : (old new : Bool) (turn : Turn D) (len : ℕ) → IsFullAt (under old) turn len → IsFullAt (under new) turn len
  full_so old new turn len (hub, entries, next, up, does, appends) =
      (hub, entries, next, up, does_so old new turn.before hub turn.meant entries next does, appends)

  -- why a run ended
  pub end_so : (old new : Bool) (turn : Turn D) (why : EndOfRun) → IsEndedBy (under old) turn why → IsEndedBy (under new) turn why
  end_so old new turn EndOfRun.JournalFault is = is
  end_so old new turn (EndOfRun.Full len) (inl (unseen, full)) = inl (unseen, full_so old new turn len full)
  end_so old new turn (EndOfRun.Full len) (inr none) = inr none
  end_so old new turn (EndOfRun.Foreign at) is = is
  end_so old new turn EndOfRun.NotJournal is = is
  end_so old new turn (EndOfRun.Damaged at) is = is
  end_so old new turn EndOfRun.Memory is = is
  end_so old new turn EndOfRun.WriteFault is = is

  ended_so : (old new : Bool) (turns : List (Turn D)) (why : EndOfRun) → EndedBecause (under old) turns why → EndedBecause (under new) turns why
  ended_so old new turns EndOfRun.Memory because = because
  ended_so old new turns EndOfRun.WriteFault because = because
  ended_so old new turns EndOfRun.JournalFault (earlier, turn, is, ended) = (earlier, turn, is, end_so old new turn EndOfRun.JournalFault ended)
  ended_so old new turns (EndOfRun.Full len) (earlier, turn, is, ended) = (earlier, turn, is, end_so old new turn (EndOfRun.Full len) ended)
  ended_so old new turns (EndOfRun.Foreign at) (earlier, turn, is, ended) = (earlier, turn, is, end_so old new turn (EndOfRun.Foreign at) ended)
  ended_so old new turns EndOfRun.NotJournal (earlier, turn, is, ended) = (earlier, turn, is, end_so old new turn EndOfRun.NotJournal ended)
  ended_so old new turns (EndOfRun.Damaged at) (earlier, turn, is, ended) = (earlier, turn, is, end_so old new turn (EndOfRun.Damaged at) ended)

  pub for_so : (old new : Bool) (end : Option (LineDone D)) (why : Option EndOfRun) → EndsFor (under old) end why → EndsFor (under new) end why
  for_so old new None why because = because
  for_so old new (Some line) None because = because
  for_so old new (Some line) (Some why) because = (ended_so old new line.turns why because.0, because.1)
