-- What standard output tells as a sink.
use Rattle.std.specs.Prelude.{ℕ, List, Option, None}
use Rattle.ix_shelf.specs.declared.out_sink.OutSink.{OutSink}

module _ {R : Type 0} where
  -- it tells no bytes
  abbrev pub told_of : OutSink R → Option (List ℕ)
  told_of sink = None

  -- how many puts failed, or took nothing of a piece that isn't empty
  abbrev pub faults_of : OutSink R → ℕ
  faults_of sink = sink.faults
