-- Room for some entries more on control, and what is left of it after one.
use Prim.Native.Nat.{ℕ, suc, ◌+◌, ◌<◌, ◌≤◌}
use mathlib.Core.Path.{◌≡◌, ap}
use mathlib.Core.List.{List}
use native.Mathlib.Omega.{arith}
use Rattle.machine.specs.Regions.{regions, Fits, with_control, raised_control}
use Rattle.machine.specs.declared.Machine.{Machine}
use Rattle.machine.proofs.stack_laws.SharedLaws.{Put, put_fits}
use Rattle.rules.specs.paper.Limits.{most_control_entries}

pub record Room (k : ℕ) (words : List ℕ) (m : Machine) : Type 0 where
  pub fits : Fits words m
  pub left : m.control + k ≤ most_control_entries

pub room_after : (k : ℕ) {before after : List ℕ} {m r : Machine} {w : ℕ} → Room (suc k) before m → Put before m w after r → Room k after r
room_after k {before} {after} {m} {r} {w} room put =
    record { fits = put_fits before m after r w room.fits put (omega (arith, room.left)); left = omega (arith, room.left, ap (λ o. o.control) put.machine_is) }

-- What `put_control` ensures.
pub was_put : {before after : List ℕ} {m r : Machine} {w : ℕ} → (r ≡ raised_control m) × (regions after (raised_control m) ≡ with_control w (regions before m)) → Put before m w after r
was_put e = record { machine_is = e.0; regions_are = e.1 }
