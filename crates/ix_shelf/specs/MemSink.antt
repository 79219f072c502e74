-- What a sink in memory holds.
use Rattle.std.specs.Prelude.{ℕ, List, Option}
use Rattle.ix_shelf.specs.declared.mem_sink.MemSink.{MemSink}

-- the bytes put so far
abbrev pub bytes_of : MemSink → List ℕ
bytes_of sink = sink.bytes.items

-- how many calls of `put` there were
abbrev pub calls_of : MemSink → ℕ
calls_of sink = sink.plan.calls

-- the numbers of the calls that are to fail
abbrev pub failing_of : MemSink → List ℕ
failing_of sink = sink.plan.failing.items

-- the numbers of the calls that take nothing of what they are given
abbrev pub nothing_of : MemSink → List ℕ
nothing_of sink = sink.plan.nothing.items

-- how many bytes a call takes or gives at most
abbrev pub limit_of : MemSink → Option ℕ
limit_of sink = sink.plan.limit

-- how many calls failed
abbrev pub faults_of : MemSink → ℕ
faults_of sink = sink.faults

-- how many calls failed because memory ran out
abbrev pub starved_of : MemSink → ℕ
starved_of sink = sink.starved
