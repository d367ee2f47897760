-- The table of best gains: what a choice is worth by a row of it, the first of the best choices, and the whole table.
use Rattle.std.specs.Prelude.{ℕ, suc, ◌+◌, ◌*◌, ◌-◌, ◌^◌, ◌≤◌, ◌<◌, ◌≡◌, Bool, List, get_or}
use Rattle.logic.specs.Lists.{tabulate}
use Rattle.logic.specs.Model.{Model, outcomes}
use Rattle.logic.specs.Quantity.{naturals, sum}
use Rattle.logic.specs.promises.Orders.{weights, order}
use Rattle.logic.specs.promises.Raised.{raise, raised, gain_choice}
use Rattle.logic.specs.promises.Recursion.{best_choice, greatest}
use Rattle.blocks.specs.Bytes.{Bytes}
use Rattle.models.specs.Layout.{state_count}
use Rattle.prepared_model.specs.promises.Rows.{choices_in, choice_in, model_in}
use Rattle.best_gain.specs.declared.Window.{Window}

-- What a choice is worth by the row of the table at `at`: each outcome's weight times what its step earns and what the row has for its target.
unfoldable pub worth_by : (m : Bytes) (best : List ℕ) (at unit s : ℕ) → ℕ → ℕ
worth_by m best at unit s c =
    sum naturals (λ o. o.weight * (unit * raise o.reward + get_or best (at + o.target) 0)) (outcomes (model_in m) s c)

-- The row's numbers are those of at most five steps, so that the sums fit.
pub record Low (m : Bytes) (best : List ℕ) (at unit : ℕ) : Type 0 where
  pub inside : at + 32 ≤ 224
  pub earns : unit ≤ 100 ^ 5
  pub row : (t : ℕ) → t < state_count m → get_or best (at + t) 0 ≤ 10000 * 100 ^ 5

-- Of the first i choices of s the one at this place is the first of the best, and is worth this.
pub record Picks (least : Bool) (m : Bytes) (best : List ℕ) (at unit s i value place : ℕ) : Type 0 where
  pub inside : place < i
  pub worth : value ≡ worth_by m best at unit s (choice_in m s place)
  pub first : choice_in m s place ≡ best_choice (weights (order least)) (worth_by m best at unit s) (tabulate i (choice_in m s))

-- A window of steps that earn.
pub record WindowRight (w : Window) : Type 0 where
  pub few : w.steps ≤ 6
  pub some : w.before < w.last
  pub within : w.last ≤ w.steps

-- With k steps left, the steps before those that earn, and the last that does, counted from there.
abbrev pub before_left : Window → ℕ → ℕ
before_left w k = w.before - (w.steps - k)

abbrev pub last_left : Window → ℕ → ℕ
last_left w k = w.last - (w.steps - k)

-- The best total over the k steps left.
abbrev pub best_left : Bool → Model → Window → (k s : ℕ) → ℕ
best_left least M w k s = greatest (weights (order least)) M k s (raised (before_left w k) (last_left w k))

-- The first `end` numbers of the table are right: its totals, and from one step on the places of the choices.
pub record Filled (least : Bool) (m : Bytes) (w : Window) (best places : List ℕ) (end : ℕ) : Type 0 where
  pub totals : (k s : ℕ) → s < state_count m → 32 * k + s < end → get_or best (32 * k + s) 0 ≡ best_left least (model_in m) w k s
  pub choices : (k s : ℕ) → s < state_count m → 32 * suc k + s < end
      → (get_or places (32 * suc k + s) 0 < choices_in m s)
      × (choice_in m s (get_or places (32 * suc k + s) 0) ≡ gain_choice least (model_in m) k (before_left w (suc k)) (last_left w (suc k)) s)

-- The whole table.
abbrev pub Tabled : Bool → Bytes → Window → (best places : List ℕ) → Type 0
Tabled least m w best places = Filled least m w best places (32 * suc w.steps)
