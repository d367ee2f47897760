-- What is remembered is the best total, and a search finds it where nothing is remembered.
use native.Mathlib.Omega.{arith}
use mathlib.Core.Path.{refl}
use Rattle.judging.proofs.BestTotals.{best_fits, place_in, recalled, remembers_more}
use Rattle.judging.proofs.conditions.best_value.Goals as goal

pub offset_bounds-memo-k : goal.offset_bounds-memo-k
offset_bounds-memo-k c = let S = c in
    let i = place_in S.requires.given.0 S.requires.given.1 S.args.least in
    omega (arith, c.memo_at-k.ensures)

pub bounds-memo-k : goal.bounds-memo-k
bounds-memo-k c = let S = c in
    let i = place_in S.requires.given.0 S.requires.given.1 S.args.least in
    omega (arith, c.memo_at-k.ensures)

pub returns-then-known-ne0 : goal.returns-then-known-ne0
returns-then-known-ne0 c = let S = c in
    let P = S.requires.given in
    let R = S.requires.c_bound.2 in record { value = recalled P.0 P.1 S.args.least R c.memo_at-k.ensures refl c.if-known-ne0.true; frame = R }

pub overflow_add-memo : goal.overflow_add-memo
overflow_add-memo c = let S = c in
    let f = best_fits S.requires.given.0 S.requires.given.1 S.args.least S.requires.c_bound.0 in
    omega (arith, c.searched-r.ensures.value)

pub offset_bounds-memo-k-2 : goal.offset_bounds-memo-k-2
offset_bounds-memo-k-2 c = let S = c in
    let i = place_in S.requires.given.0 S.requires.given.1 S.args.least in
    omega (arith, c.memo_at-k.ensures)

pub bounds-memo-k-2 : goal.bounds-memo-k-2
bounds-memo-k-2 c = let S = c in
    let i = place_in S.requires.given.0 S.requires.given.1 S.args.least in
    omega (arith, c.memo_at-k.ensures)

pub returns : goal.returns
returns c = let S = c in
    let P = S.requires.given in
    let v = c.searched-r.ensures.value in record { value = v; frame = remembers_more P.0 P.1 S.args.least S.requires.c_bound.2 c.memo_at-k.ensures v }
