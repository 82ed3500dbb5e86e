-- The two kinds of permit, and the permits of each kind: one for each vehicle number.
use Rattle.std.specs.Prelude.{ℕ}
use Rattle.permit.specs.declared.permit.Permit.{Permit}
use Rattle.permit.specs.declared.permit.Held.{Held}
use Rattle.permit.specs.declared.permit.Loaded.{Loaded}

abbrev pub HeldPermit : Type 0
HeldPermit = Permit Held

abbrev pub LoadedPermit : Type 0
LoadedPermit = Permit Loaded

abbrev pub held : ℕ → HeldPermit
held vehicle = record { vehicle = vehicle; state = record {} }

abbrev pub loaded : ℕ → LoadedPermit
loaded vehicle = record { vehicle = vehicle; state = record {} }
