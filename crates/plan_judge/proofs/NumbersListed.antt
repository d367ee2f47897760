-- A refusal of a call has the number of a ground: one that is listed for the call.
use Prim.Native.Nat.{ℕ}
use mathlib.Core.Path.{◌≡◌, refl, sym, ap, subst, ◌∙◌}
use mathlib.Core.Bool.{Bool, true}
use lib.Dec.{eqb}
use Rattle.refusals.specs.Number.{number}
use Rattle.refusals.specs.promises.Named.{named}
use Rattle.logic.specs.Lists.{all}
use Rattle.logic.proofs.Tests.{all_at, any_some, eqb_eq}
use Rattle.protocol.specs.Calls.{Call, load, put, judge, query, write, check, write_model, Held, refuse}
use Rattle.protocol.specs.Demand1.{listed}
use Rattle.protocol.specs.promises.Chains.{by_chain}
use Rattle.protocol.proofs.FirstGround.{yields_is, refuse_listed}

abbrev known : ℕ → Bool
known k = eqb (number (named k)) k

all_known : (c : Call) → all known (listed c) ≡ true
unfolding all listed
all_known (load b) = refl
all_known (put b) = refl
all_known judge = refl
all_known (query (write a)) = refl
all_known (query (check b)) = refl
all_known (query (write_model a)) = refl

pub named_back : (h : Held) (c : Call) (k : ℕ) → (by_chain h c).answer ≡ refuse k → number (named k) ≡ k
named_back h c k e =
    let w = any_some (eqb k) (listed c) (refuse_listed h c k (ap (λ r. r.answer) (yields_is h c) ∙ e)).1 in
    eqb_eq _ _ (subst (λ n. known n ≡ true) (sym (eqb_eq k w.0 w.2)) (all_at known (listed c) (all_known c) w.1))
