-- The line that the program prints for each answer, and its parts. A line ends with a line feed.
use Rattle.std.specs.Prelude.{ℕ, Bool, true, false, List, [], ◌∷◌, ◌++◌, codes}
use Rattle.std.specs.Fmt.{decimal}
use Rattle.ix_rec.specs.declared.place.Rule.{Rule}
use Rattle.ix_rec.specs.declared.place.Rule.TheVariants.{F1, F2, F3, F4, F5, F6, F7, F8, F9, I1, M1}
use Rattle.ix_rec.specs.declared.place.Rule.TheVariants.{M2, M3, M4, M5, M6, M7, N1, N2, N3, N4, N5}
use Rattle.ix_rec.specs.declared.place.Rule.TheVariants.{N6, N7, N8, N9, N10, P1, P2, P3, P4, P5}
use Rattle.ix_rec.specs.declared.place.Rule.TheVariants.{L1, L2, L3, L4, L5, L6, L7, L8, L9, L10}
use Rattle.ix_rec.specs.declared.place.Rule.TheVariants.{E1, E2, E3}
use Rattle.ix_rec.specs.declared.place.File as files
use Rattle.ix_rec.specs.declared.place.File.TheVariants as the_file
use Rattle.ix_rec.specs.declared.place.Place as places
use Rattle.ix_rec.specs.declared.place.Place.TheVariants as the_place
use Rattle.ix_report.specs.declared.report.Report as reports
use Rattle.ix_report.specs.declared.report.Report.TheVariants as the_report

abbrev pub rule_name : Rule → List ℕ
rule_name F1 = codes "F1"
rule_name F2 = codes "F2"
rule_name F3 = codes "F3"
rule_name F4 = codes "F4"
rule_name F5 = codes "F5"
rule_name F6 = codes "F6"
rule_name F7 = codes "F7"
rule_name F8 = codes "F8"
rule_name F9 = codes "F9"
rule_name I1 = codes "I1"
rule_name M1 = codes "M1"
rule_name M2 = codes "M2"
rule_name M3 = codes "M3"
rule_name M4 = codes "M4"
rule_name M5 = codes "M5"
rule_name M6 = codes "M6"
rule_name M7 = codes "M7"
rule_name N1 = codes "N1"
rule_name N2 = codes "N2"
rule_name N3 = codes "N3"
rule_name N4 = codes "N4"
rule_name N5 = codes "N5"
rule_name N6 = codes "N6"
rule_name N7 = codes "N7"
rule_name N8 = codes "N8"
rule_name N9 = codes "N9"
rule_name N10 = codes "N10"
rule_name P1 = codes "P1"
rule_name P2 = codes "P2"
rule_name P3 = codes "P3"
rule_name P4 = codes "P4"
rule_name P5 = codes "P5"
rule_name L1 = codes "L1"
rule_name L2 = codes "L2"
rule_name L3 = codes "L3"
rule_name L4 = codes "L4"
rule_name L5 = codes "L5"
rule_name L6 = codes "L6"
rule_name L7 = codes "L7"
rule_name L8 = codes "L8"
rule_name L9 = codes "L9"
rule_name L10 = codes "L10"
rule_name E1 = codes "E1"
rule_name E2 = codes "E2"
rule_name E3 = codes "E3"

abbrev pub file_word : files.File → List ℕ
file_word the_file.Device = codes "device"
file_word the_file.Design = codes "design"
file_word the_file.Packed = codes "packed"
file_word the_file.Phys = codes "phys"

abbrev pub place_text : places.Place → List ℕ
place_text the_place.File = codes "file"
place_text (the_place.At segment word) = codes "word " ++ decimal segment ++ codes ":"
    ++ decimal word
place_text (the_place.Item kind field index)
    = kind ++ codes "." ++ field ++ codes " " ++ decimal index
place_text (the_place.Named name) = name
place_text (the_place.Cell name) = codes "cell " ++ name
place_text (the_place.Pin cell pin) = codes "pin " ++ cell ++ codes "/" ++ pin
place_text (the_place.Segment net index) = codes "net " ++ net ++ codes " #" ++ decimal index
place_text (the_place.Element site element)
    = codes "element " ++ site ++ codes " " ++ decimal element
place_text (the_place.Site name) = codes "site " ++ name
place_text (the_place.Key key) = codes "key " ++ key

abbrev pub packed_text : (cells clusters : ℕ) → List ℕ
packed_text cells clusters = codes "packed " ++ decimal cells ++ codes " cells in "
    ++ decimal clusters ++ codes " clusters"

abbrev pub placed_text : (clusters length : ℕ) → List ℕ
placed_text clusters length = codes "placed " ++ decimal clusters ++ codes " clusters, length "
    ++ decimal length

abbrev pub routed_text : (nets pips rounds : ℕ) → List ℕ
routed_text nets pips rounds = codes "routed " ++ decimal nets ++ codes " nets, " ++ decimal pips
    ++ codes " pips, rounds " ++ decimal rounds

-- how large the design is
abbrev pub counts_text : (cells clusters nets pips : ℕ) → List ℕ
counts_text cells clusters nets pips =
    codes "done: " ++ decimal cells ++ codes " cells, " ++ decimal clusters ++ codes " clusters, "
    ++ decimal nets
    ++ codes " nets, " ++ decimal pips ++ codes " pips"

-- how much work it took
abbrev pub effort_text : (trial rounds : ℕ) → List ℕ
effort_text trial rounds = codes ", trial " ++ decimal trial ++ codes ", rounds " ++ decimal rounds

abbrev pub yes_text : (derived : Bool) → List ℕ
yes_text true = codes "yes, tables derived"
yes_text false = codes "yes"

abbrev pub demo_text : (number luts flip_flops ports : ℕ) → List ℕ
demo_text number luts flip_flops ports =
    codes "demo " ++ decimal number ++ codes ": " ++ decimal luts ++ codes " luts, "
    ++ decimal flip_flops ++ codes " flip-flops, "
    ++ decimal ports ++ codes " ports"

abbrev pub broken_text : Rule → places.Place → List ℕ
broken_text rule place = rule_name rule ++ codes " at " ++ place_text place

abbrev pub needs_text : (cells bels : ℕ) → List ℕ
needs_text cells bels = codes " needs " ++ decimal cells ++ codes " of " ++ decimal bels

-- how many BELs are missing
abbrev pub few_bels_text : (kind : List ℕ) (cells bels : ℕ) → List ℕ
few_bels_text kind cells bels = codes "too few bels: " ++ kind ++ needs_text cells bels

-- how much work was done in vain
abbrev pub in_vain_text : (rounds trial : ℕ) → List ℕ
in_vain_text rounds trial = codes " after " ++ decimal rounds ++ codes " rounds, trial "
    ++ decimal trial

abbrev pub shared_text : (node a b : List ℕ) (rounds trial : ℕ) → List ℕ
shared_text node a b rounds trial = codes "shared: " ++ node ++ codes " by " ++ a ++ codes " and "
    ++ b ++ in_vain_text rounds trial

-- the line of a report, without its end
abbrev pub text_of : reports.Report → List ℕ
text_of (the_report.Packed cells clusters) = packed_text cells clusters
text_of (the_report.Placed clusters length) = placed_text clusters length
text_of (the_report.Routed nets pips rounds) = routed_text nets pips rounds
text_of (the_report.Implemented cells clusters nets pips trial rounds)
    = counts_text cells clusters nets pips ++ effort_text trial rounds
text_of (the_report.Yes derived) = yes_text derived
text_of (the_report.No rule place) = codes "no" ++ codes ": " ++ broken_text rule place
text_of (the_report.Demo number luts flip_flops ports) = demo_text number luts flip_flops ports
text_of the_report.Usage = codes "bad words"
text_of (the_report.Bad file rule place) = file_word file ++ codes ": " ++ broken_text rule place
text_of (the_report.NotBuilt file) = codes "not built yet: " ++ file_word file
text_of the_report.TooLong = codes "output too long"
text_of (the_report.TooFewBels kind cells bels) = few_bels_text kind cells bels
text_of (the_report.Unpackable cell) = codes "unpackable: " ++ cell
text_of (the_report.NoSite cell) = codes "no site: " ++ cell
text_of (the_report.Unreachable net node) = codes "unreachable: " ++ net ++ codes " at " ++ node
text_of (the_report.Congested node a b rounds trial) = shared_text node a b rounds trial
text_of (the_report.ReadFault file) = codes "read fault: " ++ file
text_of (the_report.WriteFault file) = codes "write fault: " ++ file
text_of the_report.OutOfMemory = codes "out of memory"

abbrev pub line_of : reports.Report → List ℕ
line_of report = text_of report ++ 10 ∷ []
