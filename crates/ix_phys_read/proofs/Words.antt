-- The names of structs and fields, by the table and by the kinds that are counted.
use Rattle.std.proofs.Common.{◌≡◌, ◌≤◌, ℕ, zero, suc, [], refl, arith}
use Rattle.ix_schema.specs.Named.{kind_text, field_text}
use Rattle.ix_schema.specs.Structs.{phys_structs}
use Rattle.ix_take.specs.Views.{kind_word, field_word}
use Rattle.ix_phys_read.specs.Walked.{counted_structs}

pub kind_in_table : (k : ℕ) → (k ≡ 6 → ⊥) → kind_text phys_structs k ≡ kind_word counted_structs k
unfolding kind_word
kind_in_table zero h = refl
kind_in_table (suc zero) h = refl
kind_in_table (suc (suc zero)) h = refl
kind_in_table (suc (suc (suc zero))) h = refl
kind_in_table (suc (suc (suc (suc zero)))) h = refl
kind_in_table (suc (suc (suc (suc (suc zero))))) h = refl
kind_in_table (suc (suc (suc (suc (suc (suc zero)))))) h = absurd (h refl)
kind_in_table (suc (suc (suc (suc (suc (suc (suc k))))))) h = refl

pub field_in_table : (k field : ℕ) → (k ≡ 6 → ⊥)
    → field_text phys_structs k field ≡ field_word counted_structs k field
unfolding field_word
field_in_table zero field h = refl
field_in_table (suc zero) field h = refl
field_in_table (suc (suc zero)) field h = refl
field_in_table (suc (suc (suc zero))) field h = refl
field_in_table (suc (suc (suc (suc zero)))) field h = refl
field_in_table (suc (suc (suc (suc (suc zero))))) field h = refl
field_in_table (suc (suc (suc (suc (suc (suc zero)))))) field h = absurd (h refl)
field_in_table (suc (suc (suc (suc (suc (suc (suc k))))))) field h = refl

-- a route branch has six fields
pub no_field : (field : ℕ) → 6 ≤ field → field_word counted_structs 6 field ≡ []
unfolding field_word
no_field zero h = absurd (omega arith)
no_field (suc zero) h = absurd (omega arith)
no_field (suc (suc zero)) h = absurd (omega arith)
no_field (suc (suc (suc zero))) h = absurd (omega arith)
no_field (suc (suc (suc (suc zero)))) h = absurd (omega arith)
no_field (suc (suc (suc (suc (suc zero))))) h = absurd (omega arith)
no_field (suc (suc (suc (suc (suc (suc k)))))) h = refl
