-- `first_equal`: the largest room has 282 numbers beside as many as a search stores.
use Rattle.exact_plan.proofs.ListsWritten.{state_small}
use mathlib.Core.Path.{◌≡◌, sym, subst, ◌∙◌}
use mathlib.Core.List.{List}
use Prim.Native.Nat.{ℕ}
use lib.ListN.{length}
use Rattle.prepared_model.specs.promises.Rows.{model_in}
use Rattle.evaluation.specs.promises.Worth.{worth_of}
use Rattle.exact_plan.specs.promises.Totals.{totals}
use Rattle.exact_plan.specs.promises.Listing.{First}
use Rattle.exact_plan.proofs.TotalsByFirstStep.{totals_length}
use Rattle.exact_plan.proofs.FirstPlace.{counted, place_or_all}
use Rattle.exact_plan.proofs.first_equal.Goals as goal

pub stored-need-requires : goal.stored-need-requires
stored-need-requires c = let S = c in
    let G = S.requires.given in record { prepared = (G.ready.prepared, G.counts, G.ready.state); d_le_n = S.requires.d_le_n }

pub in_room-requires : goal.in_room-requires
in_room-requires c = let S = c in
    let x = c.stored-need.ensures in record { given = S.requires.given; housed = (x.value, x.range) }

pub returns : goal.returns
returns c =
    let A = c.args in
    let P = c.requires.d_le_n in
    let G = c.requires.given in
    let T : List ℕ = totals (model_in A.m.now) A.l.n A.l.s (worth_of A.m.now A.q.now A.l.s A.l.a A.l.d A.cone.now) in
    let all : c.plans_counted-all.result ≡ length T =
    counted G A.l.n P.1 P.2 c.plans_counted-all.ensures ∙ sym (totals_length (model_in A.m.now) A.l.n A.l.s (worth_of A.m.now A.q.now A.l.s A.l.a A.l.d A.cone.now)) in
    subst (First T A.x) (sym c.unwrap_or.ensures) (place_or_all c.in_room.result all c.in_room.ensures)

pub plans_counted-all-requires : goal.plans_counted-all-requires
plans_counted-all-requires c = let S = c in (S.requires.d_le_n.1, state_small S.requires.given S.requires.given.ready.state)
