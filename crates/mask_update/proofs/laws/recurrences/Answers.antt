use Rattle.std.proofs.Common.{suc, ap, sym, ◌∙◌, arith, add-one}
use Rattle.mask_update.specs.Masks.{build_at, mask_at, new_mask_at, next_build, next_mask}
use Rattle.mask_update.proofs.StepByStep.{build_at-suc, build_at-zero, mask_at-suc, mask_at-zero, moved_is}
use Rattle.mask_update.proofs.laws.recurrences.Goals as goal

pub returns-clause-first_build : goal.returns-clause-first_build
returns-clause-first_build c = λ h valid. build_at-zero h

pub returns-clause-first_mask : goal.returns-clause-first_mask
returns-clause-first_mask c = λ h valid. mask_at-zero h valid.places

pub returns-clause-build : goal.returns-clause-build
returns-clause-build c = λ h t valid within.
    rw add-one (
    build_at-suc h t
    ∙ ap (λ moved. next_build (new_mask_at h (suc t)) moved (build_at h t))
    (sym (moved_is h t (valid.inputs t (omega arith)) (valid.inputs (suc t) (omega arith))))
    )

pub returns-clause-mask : goal.returns-clause-mask
returns-clause-mask c = λ h t valid within.
    rw add-one (
    mask_at-suc h t
    ∙ ap (λ moved. next_mask (new_mask_at h (suc t)) moved (build_at h t) (mask_at h t))
    (sym (moved_is h t (valid.inputs t (omega arith)) (valid.inputs (suc t) (omega arith))))
    )
