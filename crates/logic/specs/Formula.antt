-- Formulas and their meaning. Document 01, "Formulas"; Definitions 3 and 4 of the PLBP paper; Definitions 12 and 13 of the r-PLBP thesis for
-- "gain" and for operator 9, `earns`.
use Rattle.std.specs.Prelude.{ℕ, zero, suc, ◌/◌, ◌%◌, max, Bool, true, false, not, ◌&&◌, ◌||◌, List, [], ◌∷◌, ◌++◌, get_or, take, ℤ, pos, negsuc, eqb, leb}
use Rattle.logic.specs.Lists.{any, keep}
use Rattle.logic.specs.Model.{Model, Step, prop_in}
use Rattle.logic.specs.Quantity.{naturals, integers, sum, Relation, less, equal, greater, related}
use Rattle.logic.specs.Plan.{Plan, plans, paths, weight}
use Rattle.logic.specs.Bound.{chance, expected, met_by}

pub data Formula : Type 0 where
  never : Formula
  prop : (proposition : ℕ) → Formula
  neg : Formula → Formula
  both : Formula → Formula → Formula
  does : (action : ℕ) → Formula
  next : Formula → Formula
  gain : (n : ℕ) → Relation → (p : ℤ) → Formula
  plan : (n : ℕ) → Formula → Relation → (p q : ℕ) → Formula
  earns : (n l u : ℕ) → Relation → (p : ℤ) → (q : ℕ) → Formula

-- What is said of a formula that sets a bound on plans: of a "plan" by its steps, condition, relation, p and q; of operator 9 by its steps, l
-- and u, relation, p and q. Of every other formula, `other`.
abbrev pub on_plan : {A : Type 0} → (other : A) → (ℕ → Formula → Relation → ℕ → ℕ → A) → (ℕ → ℕ → ℕ → Relation → ℤ → ℕ → A) → Formula → A
on_plan other f g never = other
on_plan other f g (prop i) = other
on_plan other f g (neg φ) = other
on_plan other f g (both φ ψ) = other
on_plan other f g (does a) = other
on_plan other f g (next φ) = other
on_plan other f g (gain n b p) = other
on_plan other f g (plan n φ r p q) = f n φ r p q
on_plan other f g (earns n l u r p q) = g n l u r p q

-- What is said of such a formula by its steps and its relation.
abbrev pub on_bound : {A : Type 0} → (other : A) → (ℕ → Relation → A) → Formula → A
on_bound other f φ = on_plan other (λ n ψ r p q. f n r) (λ n l u r p q. f n r) φ

-- The formula is true at the state s of a path, of which the steps r are left: Definition 4, and for `earns` Definition 13 of the thesis. A
-- state formula is read in s and does not look at r. "do" and "next" with no step left are false, "gain" with fewer than n steps left sums
-- those; depth keeps that from being asked.
unfoldable pub sat : Model → Formula → ℕ → List Step → Bool
sat m never s r = false
sat m (prop i) s r = prop_in m s i
sat m (neg φ) s r = not (sat m φ s r)
sat m (both φ ψ) s r = sat m φ s r && sat m ψ s r
sat m (does a) s r = elim r [ [] ↦ false | o ∷ r' ↦ eqb o.choice a ]
sat m (next φ) s r = elim r [ [] ↦ false | o ∷ r' ↦ sat m φ o.target r' ]
sat m (gain n b p) s r = related integers b (sum integers (λ o. o.reward) (take n r)) p
sat m (plan n φ b p q) s r = any (met_by m s (chance n (λ ρ. sat m φ s ρ) b p q)) (plans m n s)
sat m (earns n l u b p q) s r = any (met_by m s (expected n l u b p q)) (plans m n s)

-- Document 01's W: the summed weights of the paths that a plan allows from s and on which the condition is true.
unfoldable pub W : Model → Formula → (n : ℕ) → ℕ → Plan n → ℕ
W m φ n s π = sum naturals weight (keep (sat m φ s) (paths m n s π))

-- How many steps a formula looks ahead.
unfoldable pub depth : Formula → ℕ
depth never = 0
depth (prop i) = 0
depth (neg φ) = depth φ
depth (both φ ψ) = max (depth φ) (depth ψ)
depth (does a) = 1
depth (next φ) = suc (depth φ)
depth (gain n b p) = n
depth (plan n φ b p q) = 0
depth (earns n l u b p q) = 0

-- "do", "next", "gain", and "not" or "and" over one, are path formulas; the others are state formulas.
unfoldable pub is_path : Formula → Bool
is_path never = false
is_path (prop i) = false
is_path (neg φ) = is_path φ
is_path (both φ ψ) = is_path φ || is_path ψ
is_path (does a) = true
is_path (next φ) = true
is_path (gain n b p) = true
is_path (plan n φ b p q) = false
is_path (earns n l u b p q) = false

-- The child of "plan" has depth at most its n.
unfoldable pub shallow : Formula → Bool
shallow φ = on_plan true (λ n ψ r p q. leb (depth ψ) n) (λ n l u r p q. true) φ

-- A node of a question as it is stored.
pub record Node : Type 0 where
  pub operator : ℕ
  pub n : ℕ
  pub left : ℕ
  pub right : ℕ
  pub p : ℤ
  pub q : ℕ

-- A relation by its number; 0 and those above 3 are refused before this is asked.
unfoldable pub relation : ℕ → Relation
relation zero = equal
relation (suc zero) = less
relation (suc (suc zero)) = equal
relation (suc (suc (suc k))) = greater

-- A "plan" node's p, which is refused if below 0 before this is asked.
unfoldable pub nonnegative : ℤ → ℕ
nonnegative (pos k) = k
nonnegative (negsuc k) = 0

-- The formula of a node by its operator's number, given those of the nodes before it: the table of document 01, a row for each.
unfoldable pub formula_of : List Formula → Node → Formula
formula_of fs x =
    let left = get_or fs x.left never in
    let right = get_or fs x.right never in
    get_or
    (never
    ∷ never
    ∷ prop x.left
    ∷ neg left
    ∷ both left right
    ∷ does x.left
    ∷ next left
    ∷ gain x.n (relation x.right) x.p
    ∷ plan x.n left (relation x.right) (nonnegative x.p) x.q
    ∷ earns x.n (x.left % 8) (x.left / 8) (relation x.right) x.p x.q
    ∷ [])
    x.operator
    never

-- The formulas of all nodes, in order, after those of `fs`; the last is the root.
unfoldable pub formulas : List Formula → List Node → List Formula
formulas fs [] = fs
formulas fs (x ∷ xs) = formulas (fs ++ (formula_of fs x ∷ [])) xs
