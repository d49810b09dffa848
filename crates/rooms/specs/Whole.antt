-- The array and the number of positions come back from the box and the rest. Assumes nothing.
use Rattle.std.specs.Prelude.{ℕ, ◌≡◌, ◌≤◌, ◌++◌, length, take, drop}
use Rattle.std.proofs.Common.{sym, subst, take-append-drop, length-take-le}
use Rattle.rooms.specs.declared.Rooms.TheInside.{Inside}

-- of 64 rooms at most 64 are those of positions
pub given_back : (held : Inside) → (held.positions ≤ 64) × (length held.rooms ≡ 64)
    → ◌≡◌ {A = Inside} (record { rooms = take held.positions held.rooms ++ drop held.positions held.rooms; positions = length (take held.positions held.rooms) }) held
given_back held h = λ i. record { rooms = take-append-drop held.positions held.rooms i; positions = length-take-le held.positions held.rooms (subst (λ (k : ℕ). held.positions ≤ k) (sym h.1) h.0) i }
