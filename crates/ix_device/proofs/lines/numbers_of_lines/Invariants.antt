use Rattle.std.proofs.Common.{◌≡◌, ℕ, List, ◌++◌, length, map, take}
use Rattle.ix_device.specs.Shapes.{line_number, with_lines}
use Rattle.ix_device.proofs.lines.numbers_of_lines.Given as goal

abbrev pub invariant-loop-j : goal.invariant-loop-j
invariant-loop-j l =
    (l.lines ≡ with_lines l.initial.lines (take l.j l.wires))
    × (((more : List ℕ) → map (line_number (l.lines ++ more)) (take l.j l.wires) ≡ take l.j l.numbers) × (length l.numbers ≡ 6))
