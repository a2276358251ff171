-- When nothing but want of the host's memory refuses the plain command of a kind of job on whole pages, said in pages.
use Rattle.std.proofs.Common.{◌≡◌, ℕ, ◌+◌, ◌*◌, ◌/◌, ◌%◌, ◌<◌, ◌≤◌, Bool, true, false, not, ◌&&◌, ◌==◌, List, [], ◌∷◌, None, refl, sym, ap, subst, ◌∙◌, inl, inr, arith}
use Rattle.std.specs.Prelude.{IsSome}
use Rattle.std.specs.List.{filter, range_with_len}
use Rattle.std.proofs.lemmas.Bool.{cases_Bool, cond-false, and_from, and_left, and_right, not-false, ltb-false, le-ltb, eq-eqb}
use Rattle.vm_base.proofs.EntryLaws.{any_entry_found}
use Rattle.vm_base.proofs.SearchLaws.{count_below_le}
use Rattle.vm_base.specs.declared.limits.TheConstants.{PAGE, NAMES}
use Rattle.vm_base.specs.declared.names.VmoName.{VmoName}
use Rattle.vm_base.specs.declared.refusal.Refusal.{Refusal}
use Rattle.vm_model.specs.declared.command.Command.TheVariants.{VmoCommit, VmoZero, VmoDecommit}
use Rattle.vm_model.specs.Contents.Content.{is_held, pages_of, sole, used}
use Rattle.vm_model.specs.Contents.Owning.{need}
use Rattle.vm_model.specs.Contents.Writing.{touched}
use Rattle.vm_model.specs.Contents.Zeroing.{is_whole, is_cleared, owned_by_zero}
use Rattle.vm_model.specs.Naming.Names.{may_decommit}
use Rattle.vm_model.specs.Naming.Pins.{covers, is_pinned, any_pinned}
use Rattle.vm_model.specs.Machine.State.{State, is_open, target_of, koid_of, name_pages, size_of, place_of, lineage_of, IsGoodState}
use Rattle.vm_model.specs.Machine.Refusals.{refusals, first_of}
use Rattle.vm_model.specs.Machine.Given.{GivesName}
use Rattle.vm_model.proofs.NamesLaws.{names-open}
use Rattle.vm_model.proofs.OwningLaws.{unowned, need-row, need-filter}
use Rattle.vm_model.proofs.PinLaws.{covers_parts}
use Rattle.vm_model.proofs.StepLaws.{AllOff, AllOff-from_none, change_parts, place_inside}
use Rattle.batch_model.specs.declared.job.JobKind.{JobKind}
use Rattle.batch_model.specs.declared.job.JobKind.TheVariants.{Commit, Zero, Decommit}
use Rattle.batch_model.specs.Pieces.{plain_command}
use Rattle.batch_model.proofs.RowLaws.{touched-pages, count_from-nothing}
use Rattle.batch_model.proofs.TreatLaws.{is_whole-true}

-- what a kind of job asks of n pages of the VMO v in a row
abbrev pub AllowsPages : JobKind → State → (v first n : ℕ) → Type 0
AllowsPages Commit s v first n = used s.content + unowned s.content v first n ≤ s.content.frames
AllowsPages Zero s v first n = Unit {0}
AllowsPages Decommit s v first n = (may_decommit s.names s.lineage v (lineage_of s v) ≡ true) × (any_pinned s.pins v first (first + n) ≡ false)

-- what it asks of n pages of a name, from its page a on
pub record Allows (kind : JobKind) (s : State) (name a n : ℕ) : Type 0 where
  pub there : IsSome (s.names name)
  pub may : (target_of s name).may_write ≡ true
  pub inside : a + n ≤ name_pages s.content (target_of s name)
  pub pages : AllowsPages kind s (koid_of s name) ((target_of s name).first + a) n

-- where no row's condition holds, nothing refuses
none-from_AllOff : (rows : List (Bool × Refusal)) → AllOff rows → first_of rows ≡ None
none-from_AllOff [] off = refl
none-from_AllOff (row ∷ rows) off = cond-false row.0 _ _ off.0 ∙ none-from_AllOff rows off.1

-- the pages of a name lie in its VMO
pub rows_inside : (s : State) (name a n : ℕ) → IsGoodState s → IsSome (s.names name) → a + n ≤ name_pages s.content (target_of s name)
    → (target_of s name).first + a + n ≤ pages_of s.content (koid_of s name)
rows_inside s name a n good there inside =
    let place = place_inside s name (target_of s name) (a * PAGE) (n * PAGE) good (names-open s name there) (omega (arith, inside)) in omega (arith, place)

-- the name that the plain command gives, which is none
pub GivesName-plain : (kind : JobKind) (name : VmoName) (offset len : ℕ) → GivesName (plain_command kind name offset len)
GivesName-plain Commit name offset len = tt
GivesName-plain Zero name offset len = tt
GivesName-plain Decommit name offset len = tt

module _ (s : State) (name : VmoName) (a n : ℕ) (some : 0 < n) where
  place_is : place_of s name.0 (a * PAGE) ≡ ((target_of s name.0).first + a) * PAGE
  place_is = omega arith

  touched_is : touched (place_of s name.0 (a * PAGE)) (n * PAGE) ≡ range_with_len ((target_of s name.0).first + a) n
  touched_is = touched-pages (place_of s name.0 (a * PAGE)) (n * PAGE) ((target_of s name.0).first + a) n place_is refl some

  first_is : place_of s name.0 (a * PAGE) / PAGE ≡ (target_of s name.0).first + a
  first_is = omega arith

  end_is : place_of s name.0 (a * PAGE + n * PAGE) / PAGE ≡ (target_of s name.0).first + a + n
  end_is = omega arith

  need_is : need s.content (koid_of s name.0) (touched (place_of s name.0 (a * PAGE)) (n * PAGE)) ≡ unowned s.content (koid_of s name.0) ((target_of s name.0).first + a) n
  need_is = ap (need s.content (koid_of s name.0)) touched_is ∙ need-row s.content (koid_of s name.0) ((target_of s name.0).first + a) n

  pub Allows-from_none : (kind : JobKind) → first_of (refusals s (plain_command kind name (a * PAGE) (n * PAGE))) ≡ None → Allows kind s name.0 a n
  Allows-from_none Commit none =
      let parts = change_parts s name.0 (a * PAGE) (n * PAGE) (touched (place_of s name.0 (a * PAGE)) (n * PAGE)) none in
      record {
        there = parts.0;
        may = parts.1;
        inside = omega (arith, parts.2);
        pages = omega (arith, need_is, ltb-false s.content.frames (used s.content + need s.content (koid_of s name.0) (touched (place_of s name.0 (a * PAGE)) (n * PAGE))) parts.3);
      }
  Allows-from_none Zero none =
      let owned = owned_by_zero s.content (koid_of s name.0) (is_pinned s.pins (koid_of s name.0)) (place_of s name.0 (a * PAGE)) (n * PAGE) in
      let parts = change_parts s name.0 (a * PAGE) (n * PAGE) owned none in
      record { there = parts.0; may = parts.1; inside = omega (arith, parts.2); pages = tt }
  Allows-from_none Decommit none =
      let v = koid_of s name.0 in
      let off = AllOff-from_none (refusals s (VmoDecommit name (a * PAGE) (n * PAGE))) none in
      record {
        there = not-false (is_open s name.0) off.0;
        may = not-false (target_of s name.0).may_write off.1.0;
        inside = let fits = ltb-false (size_of s name.0) (a * PAGE + n * PAGE) off.1.1.1.1.0 in omega (arith, fits);
        pages = (
          not-false (may_decommit s.names s.lineage v (lineage_of s v)) off.1.1.1.0,
          sym (λ i. any_pinned s.pins v (first_is i) (end_is i)) ∙ off.1.1.1.1.1.0,
        );
      }

  -- no frame is wanted to make whole pages zero: what is owned is pinned, and so sole
  no_need : IsGoodState s → need s.content (koid_of s name.0) (owned_by_zero s.content (koid_of s name.0) (is_pinned s.pins (koid_of s name.0)) (place_of s name.0 (a * PAGE)) (n * PAGE)) ≡ 0
  no_need good =
      let c = s.content in
      let v = koid_of s name.0 in
      let first = (target_of s name.0).first + a in
      let pinned = is_pinned s.pins v in
      let offset = place_of s name.0 (a * PAGE) in
      let test = λ (p : ℕ). is_held c v p && not (is_cleared pinned offset (n * PAGE) p) in
      ap (λ (ps : List ℕ). need c v (filter test ps)) touched_is
      ∙ (need-filter c v first n test ∙ count_from-nothing (λ p. test p && not (sole c v p)) first n (λ p low high.
      let whole : is_whole offset (n * PAGE) p ≡ true = is_whole-true offset (n * PAGE) p (omega arith) (omega arith) in
      elim (cases_Bool (pinned p)) [
        | inr free ↦
            let cleared : is_cleared pinned offset (n * PAGE) p ≡ true = and_from (is_whole offset (n * PAGE) p) (not (pinned p)) whole (ap not free) in
            and_left (test p) (not (sole c v p)) (and_right (is_held c v p) (not (is_cleared pinned offset (n * PAGE) p)) (ap not cleared))
        | inl held ↦ and_right (test p) (not (sole c v p)) (ap not (pinned_alone p held))
      ]))
    where
      pinned_alone : (p : ℕ) → is_pinned s.pins (koid_of s name.0) p ≡ true → sole s.content (koid_of s name.0) p ≡ true
      pinned_alone p held =
          let found = any_entry_found NAMES (covers (koid_of s name.0) p) s.pins held in
          let parts = covers_parts (koid_of s name.0) p found.1 found.4 in
          let alone = (good.pins found.0 found.1 found.3).1.alone p parts.1 parts.2 in
          subst (λ (w : ℕ). sole s.content w p ≡ true) parts.0 alone

  used_few : used s.content ≤ s.content.frames
  unfolding used
  used_few = grind (arith, count_below_le)

  pub none-from_Allows : (kind : JobKind) → IsGoodState s → Allows kind s name.0 a n → first_of (refusals s (plain_command kind name (a * PAGE) (n * PAGE))) ≡ None
  none-from_Allows Commit good allows =
      let place = place_of s name.0 (a * PAGE) in
      let owned = touched place (n * PAGE) in
      none-from_AllOff (refusals s (VmoCommit name (a * PAGE) (n * PAGE))) (
        ap not allows.there,
        (
          ap not allows.may,
          (
            le-ltb (size_of s name.0) (a * PAGE + n * PAGE) (omega (arith, allows.inside)),
            (le-ltb s.content.frames (used s.content + need s.content (koid_of s name.0) owned) (omega (arith, need_is, allows.pages)), tt),
          ),
        ),
      )
  none-from_Allows Zero good allows =
      let owned = owned_by_zero s.content (koid_of s name.0) (is_pinned s.pins (koid_of s name.0)) (place_of s name.0 (a * PAGE)) (n * PAGE) in
      none-from_AllOff (refusals s (VmoZero name (a * PAGE) (n * PAGE))) (
        ap not allows.there,
        (
          ap not allows.may,
          (
            le-ltb (size_of s name.0) (a * PAGE + n * PAGE) (omega (arith, allows.inside)),
            (le-ltb s.content.frames (used s.content + need s.content (koid_of s name.0) owned) (omega (arith, no_need good, used_few)), tt),
          ),
        ),
      )
  none-from_Allows Decommit good allows =
      let v = koid_of s name.0 in
      let begins : (a * PAGE) % PAGE ≡ 0 = omega arith in
      let whole : (n * PAGE) % PAGE ≡ 0 = omega arith in
      none-from_AllOff (refusals s (VmoDecommit name (a * PAGE) (n * PAGE))) (
        ap not allows.there,
        (
          ap not allows.may,
          (
            ap not (and_from ((a * PAGE) % PAGE == 0) ((n * PAGE) % PAGE == 0) (eq-eqb ((a * PAGE) % PAGE) 0 begins) (eq-eqb ((n * PAGE) % PAGE) 0 whole)),
            (
              ap not allows.pages.0,
              (
                le-ltb (size_of s name.0) (a * PAGE + n * PAGE) (omega (arith, allows.inside)),
                ((λ i. any_pinned s.pins v (first_is i) (end_is i)) ∙ allows.pages.1, tt),
              ),
            ),
          ),
        ),
      )
