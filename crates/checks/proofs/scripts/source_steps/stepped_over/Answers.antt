use Rattle.std.proofs.Common.{◌≡◌, ℕ, None, sym, ap, subst, ◌∙◌, arith}
use Rattle.vm_model.specs.Contents.Content.{Content, nothing, IsGood}
use Rattle.vm_model.proofs.ContentLaws.{IsGood-nothing}
use Rattle.checks.proofs.scripts.source_steps.stepped_over.Goals as goal

-- a store that had nothing, with page frames
filled : (frames : ℕ) (new old : Content) → new ≡ record old { frames = frames } → old ≡ nothing → IsGood new × ((v : ℕ) → new.count v ≡ None) × (new.next ≡ 1)
unfolding nothing
filled frames new old with_frames e =
    let is : new ≡ record nothing { frames = frames } = with_frames ∙ ap (λ (c : Content). record c { frames = frames }) e in
    (subst IsGood (sym is) (IsGood-nothing frames), λ v. ap (λ (c : Content). c.count v) is, ap (λ (c : Content). c.next) is)

pub step_through-done-requires-clause-agrees : goal.step_through-done-requires-clause-agrees
step_through-done-requires-clause-agrees g c =
    let bare = filled c.args.frames _ _ c.in-Ok.ensures c.requires in c.new-vm.ensures.agrees _ bare.0 bare.1

pub step_through-done-requires-clause-next : goal.step_through-done-requires-clause-next
step_through-done-requires-clause-next g c = omega (arith, (filled c.args.frames _ _ c.in-Ok.ensures c.requires).2)
