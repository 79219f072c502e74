-- The statuses of the program.
use Rattle.std.specs.Prelude.{ℕ}
use Rattle.ix_report.specs.declared.report.Report as reports
use Rattle.ix_report.specs.declared.report.Report.TheVariants as told
use Rattle.ix_flow.specs.declared.status.Status.{Status}
use Rattle.ix_flow.specs.declared.status.Status.TheVariants.{Done, No, Usage, Bad, NotBuilt}
use Rattle.ix_flow.specs.declared.status.Status.TheVariants.{TooLong, TooFewBels, Unpackable}
use Rattle.ix_flow.specs.declared.status.Status.TheVariants.{NoSite, Unreachable, Congested}
use Rattle.ix_flow.specs.declared.status.Status.TheVariants.{ReadFault, WriteFault, PutFault}
use Rattle.ix_flow.specs.declared.status.Status.TheVariants.{OutOfMemory}

-- the exit status of the process
abbrev pub code_of : Status → ℕ
code_of Done = 0
code_of (No rule place) = 1
code_of Usage = 2
code_of (Bad file rule place) = 3
code_of TooLong = 3
code_of (TooFewBels kind cells bels) = 4
code_of (Unpackable cell) = 4
code_of (NoSite cell) = 4
code_of (Unreachable net node) = 5
code_of (Congested node a b rounds trial) = 6
code_of (ReadFault file) = 7
code_of (WriteFault file) = 7
code_of PutFault = 7
code_of OutOfMemory = 8
code_of (NotBuilt file) = 9

-- the status whose line a report is
abbrev pub status_of : reports.Report → Status
status_of (told.Packed cells clusters) = Done
status_of (told.Placed clusters length) = Done
status_of (told.Routed nets pips rounds) = Done
status_of (told.Implemented cells clusters nets pips trial rounds) = Done
status_of (told.Yes derived) = Done
status_of (told.No rule place) = No rule place
status_of (told.Demo number luts flip_flops ports) = Done
status_of told.Usage = Usage
status_of (told.Bad file rule place) = Bad file rule place
status_of (told.NotBuilt file) = NotBuilt file
status_of told.TooLong = TooLong
status_of (told.TooFewBels kind cells bels) = TooFewBels kind cells bels
status_of (told.Unpackable cell) = Unpackable cell
status_of (told.NoSite cell) = NoSite cell
status_of (told.Unreachable net node) = Unreachable net node
status_of (told.Congested node a b rounds trial) = Congested node a b rounds trial
status_of (told.ReadFault file) = ReadFault file
status_of (told.WriteFault file) = WriteFault file
status_of told.OutOfMemory = OutOfMemory
