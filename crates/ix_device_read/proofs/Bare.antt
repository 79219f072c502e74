-- Structs without texts behind pointers.
use Rattle.std.proofs.Common.{◌≡◌, ◌&&◌, ℕ, Bool, true, false, List, [], ◌∷◌, refl}
use Rattle.std.specs.Prelude.{Option, Some, None}
use Rattle.std.specs.List.{flat_map}
use Rattle.std.proofs.lemmas.List.{append-nil}
use Rattle.ix_message.specs.Shape.{Text, Struct, Pointers, Value, Parts, struct_of, no_more, text, texts, numbers, struct, struct_or_none, boxed, structs, branches, string_table, unread}
use Rattle.ix_message.specs.Names.{option_uses}
use Rattle.ix_message.specs.Device.{device, site_type, tile_type, tile, wire, node, cell_bel_mapping, package_of_pins, constant_cells, lut_definitions}
use Rattle.ix_device_read.specs.Loose.{loose_texts, loose_parts}

abbrev mutual
  pub bare : Struct → Bool
  bare (struct_of c fields ps) = bare_parts ps

  pub bare_parts : Pointers → Bool
  bare_parts no_more = true
  bare_parts (text c ps) = false
  bare_parts (texts c ps) = false
  bare_parts (numbers c target kind ps) = bare_parts ps
  bare_parts (struct c s ps) = bare s && bare_parts ps
  bare_parts (struct_or_none c s ps) = bare s && bare_parts ps
  bare_parts (boxed c kind inner s ps) = bare s && bare_parts ps
  bare_parts (structs c target s ps) = bare s && bare_parts ps
  bare_parts (branches c kind fields ps) = bare_parts ps
  bare_parts (string_table c ps) = bare_parts ps
  bare_parts (unread c ps) = bare_parts ps

both : (a b : Bool) → (a && b) ≡ true → (a ≡ true) × (b ≡ true)
both true b h = (refl, h)
both false b h = absurd (cc)

flat_none : {A : Type 0} (f : A → List Text) → ((x : A) → f x ≡ []) → (xs : List A) → flat_map f xs ≡ []
flat_none f none [] = refl
flat_none f none (x ∷ xs) = rw (none x) (flat_none f none xs)

option_none : {A : Type 0} (f : A → List Text) → ((x : A) → f x ≡ []) → (o : Option A) → option_uses f o ≡ []
option_none f none None = refl
option_none f none (Some x) = none x

mutual
  unfolding loose_texts loose_parts

  pub bare_none : (s : Struct) → bare s ≡ true → (v : Value ℕ s) → loose_texts s v ≡ []
  bare_none (struct_of c fields ps) h v = bare_parts_none ps h v.1

  pub bare_parts_none : (ps : Pointers) → bare_parts ps ≡ true → (v : Parts ℕ ps) → loose_parts ps v ≡ []
  bare_parts_none no_more h v = refl
  bare_parts_none (text c ps) h v = absurd (cc)
  bare_parts_none (texts c ps) h v = absurd (cc)
  bare_parts_none (numbers c target kind ps) h v = bare_parts_none ps h v.1
  bare_parts_none (struct c s ps) h v = let two = both (bare s) (bare_parts ps) h in rw (bare_none s two.0 v.0) (bare_parts_none ps two.1 v.1)
  bare_parts_none (struct_or_none c s ps) h v = let two = both (bare s) (bare_parts ps) h in rw (option_none (loose_texts s) (bare_none s two.0) v.0) (bare_parts_none ps two.1 v.1)
  bare_parts_none (boxed c kind inner s ps) h v = let two = both (bare s) (bare_parts ps) h in rw (flat_none (loose_texts s) (bare_none s two.0) v.0) (bare_parts_none ps two.1 v.1)
  bare_parts_none (structs c target s ps) h v = let two = both (bare s) (bare_parts ps) h in rw (flat_none (loose_texts s) (bare_none s two.0) v.0) (bare_parts_none ps two.1 v.1)
  bare_parts_none (branches c kind fields ps) h v = bare_parts_none ps h v.1
  bare_parts_none (string_table c ps) h v = bare_parts_none ps h v
  bare_parts_none (unread c ps) h v = bare_parts_none ps h v

-- what a list of such structs has none of
bare_list : (s : Struct) → bare s ≡ true → (vs : List (Value ℕ s)) → flat_map (loose_texts s) vs ≡ []
bare_list s h vs = flat_none (loose_texts s) (bare_none s h) vs

-- the texts of a device are its name and those of its LUT cells and elements
pub device_texts : (row : List ℕ) (name : Text) (sts : List (Value ℕ site_type)) (tts : List (Value ℕ tile_type)) (tiles : List (Value ℕ tile)) (ws : List (Value ℕ wire)) (ns : List (Value ℕ node)) (cs : List (Value ℕ cell_bel_mapping)) (ps : List (Value ℕ package_of_pins)) (k : Option (Value ℕ constant_cells)) (lut : Value ℕ lut_definitions)
    → loose_texts device (row, (name, (sts, (tts, (tiles, (ws, (ns, (cs, (ps, (k, (lut, tt))))))))))) ≡ name ∷ loose_texts lut_definitions lut
unfolding loose_texts
device_texts row name sts tts tiles ws ns cs ps k lut =
    rw (bare_list site_type refl sts, bare_list tile_type refl tts, bare_list tile refl tiles, bare_list wire refl ws, bare_list node refl ns, bare_list cell_bel_mapping refl cs, bare_list package_of_pins refl ps, option_none (loose_texts constant_cells) (bare_none constant_cells refl) k, append-nil (loose_texts lut_definitions lut)) refl
