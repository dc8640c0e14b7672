-- Which corners a machine word can step from: those of a triangle whose three corners fit it.
use Rattle.std.specs.Prelude.{ℕ, ◌<◌}
use Rattle.theory.specs.Corner.{triangle}

abbrev pub Counted : ℕ → Type 0
Counted c = triangle c < 6148914691236517205
