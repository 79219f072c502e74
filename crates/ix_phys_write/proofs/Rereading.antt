-- The file of a physical netlist reads again as its record.
use Rattle.std.proofs.Common.{◌≡◌, ℕ, List, ap, refl, ◌∙◌}
use Rattle.std.specs.Prelude.{Result, Ok, Err, false, IfOk, OnOk}
use Rattle.std.specs.List.{All}
use Rattle.ix_message.specs.Shape.{Text}
use Rattle.ix_message.specs.Names.{table_of, place_in}
use Rattle.ix_message.specs.Records.{IsText}
use Rattle.ix_message.specs.Message.{ReadsAgain, reading, encoding, is_too_long}
use Rattle.ix_message.specs.Phys.{phys_netlist}
use Rattle.ix_message.proofs.Proper.{are_sections, is_proper, is_root, message_again}
use Rattle.ix_rec.specs.declared.phys.Phys.{Phys}
use Rattle.ix_phys_write.specs.Record.{phys_record}
use Rattle.ix_phys_write.proofs.Proper.{are_texts, phys_is}
use Rattle.ix_phys_write.proofs.InLists.{none_bad}

phys_again : ReadsAgain phys_netlist
unfolding is_root is_proper are_sections
phys_again = message_again phys_netlist refl

pub reads_again : (names : List Text) (p : Phys) → All IsText names → is_too_long phys_netlist (phys_record names p) ≡ false
    → reading phys_netlist (encoding phys_netlist (phys_record names p)) ≡ Ok (phys_record names p)
reads_again names p utf8 fits =
    let r = phys_record names p in
    phys_again r (phys_is names (place_in (table_of phys_netlist r)) (are_texts names utf8) p) (none_bad names p) fits

-- a file that was written
pub written_reads : {F E : Type 0} (items : F → List ℕ) (names : List Text) (p : Phys) (file : Result F E) → All IsText names
    → IfOk file (λ f. items f ≡ encoding phys_netlist (phys_record names p)) → OnOk file (is_too_long phys_netlist (phys_record names p) ≡ false)
    → IfOk file (λ f. reading phys_netlist (items f) ≡ Ok (phys_record names p))
written_reads items names p (Ok f) utf8 bytes fits = ap (reading phys_netlist) bytes ∙ reads_again names p utf8 fits
written_reads items names p (Err e) utf8 bytes fits = tt
