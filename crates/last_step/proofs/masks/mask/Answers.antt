use Prim.Native.Nat.{suc}
use native.Mathlib.Omega.{arith}
use native.Mathlib.Numerals.{add-one}
use mathlib.Core.Path.{◌≡◌, sym, ap, subst, ◌∙◌}
use lib.ListN.{length, get_or, take, length-set}
use Rattle.last_step.specs.promises.Masks.{Masked, Ended}
use Rattle.last_step.proofs.LaneMeaning.{masked_more, masked_skip, ended}
use Rattle.last_step.proofs.masks.mask.Goals as goal
use Rattle.last_step.proofs.masks.mask.Goals.{then-late-j-eq1, else-late-j-eq1}

pub loop-i-preserved : goal.loop-i-preserved
loop-i-preserved c = let S = c in
    let L = c.loop-i in
    let l = c.loop-i-test.true in
    let P = Masked S.args.m.now S.args.q.now S.args.at.start S.args.cone.now S.args.late.now (take S.args.at.h S.args.trail.now) S.args.at.s in (
      elim c.if-late-j-eq1.branch [
        | then-late-j-eq1 w ↦ ap length w.masks-is ∙ length-set L.masks (get_or S.args.cone.now L.i 0) w.mask_node.result ∙ L.invariant.0
        | else-late-j-eq1 w ↦ ap length w.masks-is ∙ L.invariant.0
      ],
      subst (λ n. P n c.if-late-j-eq1.masks) (sym (add-one L.i))
          (elim c.if-late-j-eq1.branch [
            | then-late-j-eq1 w ↦ subst (P (suc L.i)) (sym w.masks-is) (masked_more S.requires l L.masks w.mask_node.result L.invariant.0 L.invariant.1 w.mask_node.ensures)
            | else-late-j-eq1 w ↦ subst (P (suc L.i)) (sym w.masks-is) (masked_skip S.requires l L.masks w.if-late-j-eq1.false L.invariant.1)
          ]),
    )

pub returns : goal.returns
returns c =
    let S = c in
    let L = c.loop-i in
    let all : L.i ≡ length S.args.cone.now = omega (arith, c.loop-i-test.false) in
    subst (Ended S.args.m.now S.args.q.now S.args.at.start S.args.cone.now (take S.args.at.h S.args.trail.now) S.args.at.s) (sym c.mask_at.ensures)
    (ended S.requires L.masks (subst (λ n. Masked S.args.m.now S.args.q.now S.args.at.start S.args.cone.now S.args.late.now (take S.args.at.h S.args.trail.now) S.args.at.s n L.masks) all L.invariant.1))
