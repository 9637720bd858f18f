-- Why a run ends before its script does.
use Rattle.orc_hub.specs.declared.starting.StartFault.{StartFault}
use Rattle.orc_hub.specs.declared.starting.StartFault.TheVariants as start
use Rattle.orc_journal.specs.declared.fault.OpenFault.{OpenFault}
use Rattle.orc_journal.specs.declared.fault.OpenFault.TheVariants as opening
use Rattle.orc_runs.specs.Ends.{EndOfRun, EndOfRun as ended}
use Rattle.orc_scene.specs.declared.stop.WorldStop.{WorldStop}
use Rattle.orc_scene.specs.declared.stop.WorldStop.TheVariants as stop

-- how a run ends whose journal isn't opened
abbrev pub stop_of_opening : OpenFault → WorldStop
stop_of_opening (opening.Foreign at) = stop.Foreign at
stop_of_opening opening.NotJournal = stop.NotJournal
stop_of_opening opening.DiskFault = stop.JournalFault
stop_of_opening opening.Memory = stop.Memory
stop_of_opening (opening.Full len) = stop.Full len
stop_of_opening (opening.Damaged at) = stop.Damaged at

-- how a run ends whose journal makes no hub
abbrev pub stop_of_start : StartFault → WorldStop
stop_of_start (start.Damaged n at) = stop.Damaged at
stop_of_start start.Memory = stop.Memory

-- how the runs have it
abbrev pub end_of_run : WorldStop → EndOfRun
end_of_run stop.JournalFault = ended.JournalFault
end_of_run (stop.Full len) = ended.Full len
end_of_run stop.Memory = ended.Memory
end_of_run (stop.Foreign at) = ended.Foreign at
end_of_run stop.NotJournal = ended.NotJournal
end_of_run (stop.Damaged at) = ended.Damaged at
