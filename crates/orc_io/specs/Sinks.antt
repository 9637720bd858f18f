-- What contracts see of the sinks of this crate, and what each reports about itself.
use Rattle.std.specs.Prelude.{ℕ, ◌-◌, List, ◌++◌, length, Option, Some}
use Rattle.orc_io.specs.Counts.{next_count}
use Rattle.orc_io.specs.Meanings.{SinkMeaning}

-- a sink over a writer: the bytes held, where the writer reports them, and how often it failed
pub record WriterSink : Type 0 where
  pub held : Option (List ℕ)
  pub faults : ℕ

-- it reports what its writer reports
abbrev pub writer_sink : SinkMeaning WriterSink
writer_sink = record { held = λ sink. sink.held; faults = λ sink. sink.faults }

-- a sink in memory: the bytes held, how many more fit, the calls that are to fail, how many calls came and how many
-- failed
pub record MemorySink : Type 0 where
  pub held : List ℕ
  pub room : ℕ
  pub fails : List ℕ
  pub calls : ℕ
  pub faults : ℕ

-- it reports all that it holds
abbrev pub memory_sink : SinkMeaning MemorySink
memory_sink = record { held = λ sink. Some sink.held; faults = λ sink. sink.faults }

-- the sink after a call that failed
abbrev pub write_failed : MemorySink → MemorySink
write_failed sink = record sink { calls = next_count sink.calls; faults = next_count sink.faults }

-- the sink after a call that took the bytes
abbrev pub write_took : MemorySink → List ℕ → MemorySink
write_took sink bytes = record sink {
  held = sink.held ++ bytes;
  room = sink.room - length bytes;
  calls = next_count sink.calls;
}
