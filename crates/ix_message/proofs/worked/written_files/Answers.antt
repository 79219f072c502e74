-- Each is computed.
use Rattle.std.proofs.Common.{refl}
use Rattle.ix_message.specs.Names.{numbered, uses, first_uses, place_in}
use Rattle.ix_message.specs.Layout.{pointer_section, texts_laid, numbers_laid, element_sections, structs_laid, branch_sections, section_of}
use Rattle.ix_message.specs.Message.{segment_for, encoding}
use Rattle.ix_message.proofs.worked.written_files.Goals as goal

pub returns-clause-empty : goal.returns-clause-empty
unfolding numbered uses first_uses place_in pointer_section texts_laid numbers_laid element_sections structs_laid branch_sections section_of segment_for encoding
returns-clause-empty c = refl

pub returns-clause-pair : goal.returns-clause-pair
unfolding numbered uses first_uses place_in pointer_section texts_laid numbers_laid element_sections structs_laid branch_sections section_of segment_for encoding
returns-clause-pair c = refl

pub returns-clause-bus : goal.returns-clause-bus
unfolding numbered uses first_uses place_in pointer_section texts_laid numbers_laid element_sections structs_laid branch_sections section_of segment_for encoding
returns-clause-bus c = refl

pub returns-clause-tile : goal.returns-clause-tile
unfolding numbered uses first_uses place_in pointer_section texts_laid numbers_laid element_sections structs_laid branch_sections section_of segment_for encoding
returns-clause-tile c = refl

pub returns-clause-routed : goal.returns-clause-routed
unfolding numbered uses first_uses place_in pointer_section texts_laid numbers_laid element_sections structs_laid branch_sections section_of segment_for encoding
returns-clause-routed c = refl

pub returns-clause-clusters : goal.returns-clause-clusters
unfolding numbered uses first_uses place_in pointer_section texts_laid numbers_laid element_sections structs_laid branch_sections section_of segment_for encoding
returns-clause-clusters c = refl

pub returns-clause-whole : goal.returns-clause-whole
unfolding numbered uses first_uses place_in pointer_section texts_laid numbers_laid element_sections structs_laid branch_sections section_of segment_for encoding
returns-clause-whole c = refl
