-- A machine with no names, pins, regions and translations, over a store without VMOs.
use Rattle.std.proofs.Common.{◌≡◌, ℕ, ◌≤◌, None, sym, ap, subst, ◌∙◌}
use Rattle.vm_model.specs.Contents.Content.{Content, nothing, HasNoVmo}
use Rattle.vm_model.specs.Machine.State.{IsGoodState, empty_state}
use Rattle.vm_model.specs.Machine.Machine.{empty_machine}
use Rattle.mapping_set.specs.Tables.{table_of}
use Rattle.fault.specs.Table.{translations_of, ready_of, AreTrue}
use Rattle.machine.specs.Machine.{bare_state, bare_machine, state_of}
use Rattle.machine.proofs.StartLaws.{IsGoodState-bare}
use Rattle.vm_core.specs.Vm.{Parts, machine_of, Agrees}

-- parts with no names, pins and regions, in which no page is translated
pub machine_of-bare : (c : Content) (vm : Parts) → state_of c vm ≡ bare_state c → translations_of vm.ready ≡ (λ root p. None) → machine_of c vm ≡ bare_machine c
machine_of-bare c vm bare none = λ i. record { state = bare i; ready = ready_of (none i) }

-- the parts agree with the store
pub agrees_bare : (c : Content) (vm : Parts) → state_of c vm ≡ bare_state c → translations_of vm.ready ≡ (λ root p. None) → HasNoVmo c → 1 ≤ c.next → Agrees c vm
agrees_bare c vm bare none no_vmo first = record {
  good = subst IsGoodState (sym bare) (IsGoodState-bare c no_vmo first);
  translations = subst (AreTrue c (table_of vm.maps)) (sym none)
      (record { entry = λ root p x e. absurd cc; frame = λ root p x e. absurd cc; below = λ root p x e. absurd cc; alone = λ root p x e. absurd cc });
}

-- a store that had nothing, with page frames
pub machine_of-filled : (frames : ℕ) (new old : Content) (vm : Parts) → ((c : Content) → machine_of c vm ≡ bare_machine c)
    → new ≡ record old { frames = frames } → old ≡ nothing → machine_of new vm ≡ empty_machine frames
unfolding empty_machine empty_state
machine_of-filled frames new old vm bare filled e =
    let with_frames = λ (c : Content). record c { frames = frames } in
    bare new ∙ ap bare_machine (filled ∙ ap with_frames e)

-- it has no VMO, and the first koid is still to come
pub filled_fresh : (frames : ℕ) (new old : Content) → new ≡ record old { frames = frames } → old ≡ nothing → HasNoVmo new × (new.next ≡ 1)
unfolding nothing
filled_fresh frames new old filled e =
    let with_frames = λ (c : Content). record c { frames = frames } in
    let is : new ≡ record nothing { frames = frames } = filled ∙ ap with_frames e in (
      record { none = λ v. ap (λ (c : Content). c.count v) is; no_page = λ v p. ap (λ (c : Content). c.page v p) is },
      ap (λ (c : Content). c.next) is,
    )
