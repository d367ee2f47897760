-- One outcome more among which the longest is sought.
use Prim.Native.Nat.{ℕ, ◌+◌, ◌*◌, ◌≤◌, ◌<◌}
use native.Mathlib.Nat.{le_refl}
use native.Mathlib.Omega.{arith}
use mathlib.Core.Path.{◌≡◌, sym, subst}
use native.Mathlib.Decide.{ℕ_discrete}
use lib.ListN.{get_or}
use mathlib.Core.List.{List}
use Rattle.blocks.specs.Bytes.{Bytes}
use Rattle.prepared_model.specs.promises.Rows.{step_in}
use Rattle.exact_plan.specs.promises.Listing.{Longest}

module _ {m : Bytes} {table : List ℕ} {s i o k best : ℕ} (L : Longest m table s i o k best) where
  abbrev pub size : ℕ → ℕ
  size o = get_or table (32 * k + (step_in m s i o).target) 0

  last_or_less : {P : ℕ → Type 0} → ((j : ℕ) → j < o → P j) → P o → (j : ℕ) → j < o + 1 → P j
  last_or_less {P} f l j h = go (ℕ_discrete j o)
    where
      go : Dec (j ≡ o) → P j
      go (yes e) = subst P (sym e) l
      go (no e) = f j (omega arith)

  pub longer : size best < size o → Longest m table s i (o + 1) k o
  longer h = record { inside = omega arith; most = last_or_less (λ j l. omega (arith, L.most j l)) (le_refl _) }

  pub no_longer : size o ≤ size best → Longest m table s i (o + 1) k best
  no_longer h = record { inside = omega (arith, L.inside); most = last_or_less L.most h }
