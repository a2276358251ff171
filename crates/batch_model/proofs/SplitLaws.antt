-- What a kind of job does to whole pages of a name as a step of the machine: the pages of a name and those behind them are done one
-- after the other where they are done together.
use Rattle.std.proofs.Common.{◌≡◌, ℕ, ◌+◌, ◌*◌, ◌/◌, ◌<◌, ◌≤◌, false, List, refl, sym, ap, subst, ◌∙◌, inr, arith}
use Rattle.std.specs.Prelude.{IsSome, unwrap_or}
use Rattle.std.specs.List.{range_with_len}
use Rattle.vm_base.specs.declared.limits.TheConstants.{PAGE}
use Rattle.vm_base.specs.declared.names.VmoName.{VmoName}
use Rattle.vm_base.proofs.SearchLaws.{none_from_at}
use Rattle.vm_model.specs.Machine.Words.{Reply}
use Rattle.vm_model.specs.declared.reply.Reply.TheVariants.{Done}
use Rattle.vm_model.specs.Contents.Content.{Content, pages_of}
use Rattle.vm_model.specs.Contents.Owning.{OwnsAll}
use Rattle.vm_model.specs.Contents.Writing.{touched}
use Rattle.vm_model.specs.Contents.Zeroing.{zeroed, Zeroes}
use Rattle.vm_model.specs.Naming.Pins.{is_pinned, any_pinned}
use Rattle.vm_model.specs.Space.Readiness.{settled}
use Rattle.vm_model.specs.Machine.State.{State, target_of, koid_of, name_pages, place_of, lineage_of, IsGoodState}
use Rattle.vm_model.specs.Machine.Machine.{Machine}
use Rattle.vm_model.specs.Machine.MachineStep.{MachineEffect}
use Rattle.vm_model.proofs.PinLaws.{none_pinned}
use Rattle.batch_model.specs.declared.job.JobKind.{JobKind}
use Rattle.batch_model.specs.declared.job.JobKind.TheVariants.{Commit, Zero, Decommit}
use Rattle.batch_model.specs.Pieces.{plain_command}
use Rattle.batch_model.proofs.RowLaws.{touched-pages, unowned-both, unowned-same, Leaves}
use Rattle.batch_model.proofs.TreatLaws.{Treats, Treats-leaves, Treats-both, OwnsAll-used}
use Rattle.batch_model.proofs.SettleLaws.{AreApart-rows, settled-twice}
use Rattle.batch_model.proofs.AllowLaws.{AllowsPages, Allows, rows_inside}

-- n pages of a name, from its page a on, are done: nothing else of the state changes, and what keeps its frame stays ready
pub record TreatsName (kind : JobKind) (name a n : ℕ) (old new : Machine) : Type 0 where
  pub state : new.state ≡ record old.state { content = new.state.content }
  pub treats : Treats kind (koid_of old.state name) (is_pinned old.state.pins (koid_of old.state name)) ((target_of old.state name).first + a) n old.state.content new.state.content
  pub ready : new.ready ≡ settled old.state.content new.state.content old.state.spaces.table old.ready

-- ---- as the effect of the plain command

-- what is ready by the entries of the new state, which are those of the old one
ready_too : (old new : Machine) → new.state ≡ record old.state { content = new.state.content }
    → settled old.state.content new.state.content new.state.spaces.table old.ready ≡ settled old.state.content new.state.content old.state.spaces.table old.ready
ready_too old new same = ap (λ (s : State). settled old.state.content new.state.content s.spaces.table old.ready) same

module _ (old : Machine) (name : VmoName) (a n : ℕ) (some : 0 < n) where
  abbrev first : ℕ
  first = (target_of old.state name.0).first + a

  offset_is : place_of old.state name.0 (a * PAGE) ≡ first * PAGE
  offset_is = omega arith

  pages_are : touched (place_of old.state name.0 (a * PAGE)) (n * PAGE) ≡ range_with_len first n
  pages_are = touched-pages (place_of old.state name.0 (a * PAGE)) (n * PAGE) first n offset_is refl some

  first_is : place_of old.state name.0 (a * PAGE) / PAGE ≡ first
  first_is = omega arith

  end_is : place_of old.state name.0 (a * PAGE + n * PAGE) / PAGE ≡ first + n
  end_is = omega arith

  pub TreatsName-from_effect : (kind : JobKind) (reply : Reply) (new : Machine) → MachineEffect old (plain_command kind name (a * PAGE) (n * PAGE)) reply new → (reply ≡ Done) × TreatsName kind name.0 a n old new
  TreatsName-from_effect Commit reply new effect = (
    effect.0.0,
    record {
      state = effect.0.1;
      treats = subst (λ (ps : List ℕ). OwnsAll old.state.content (koid_of old.state name.0) ps new.state.content) pages_are effect.0.2;
      ready = effect.1 ∙ ready_too old new effect.0.1;
    },
  )
  TreatsName-from_effect Zero reply new effect = (
    effect.0.0,
    record {
      state = effect.0.1;
      treats = subst (λ (ps : List ℕ). Zeroes old.state.content (koid_of old.state name.0) (is_pinned old.state.pins (koid_of old.state name.0)) (first * PAGE) (n * PAGE) ps new.state.content) pages_are
          (subst (λ (at : ℕ). Zeroes old.state.content (koid_of old.state name.0) (is_pinned old.state.pins (koid_of old.state name.0)) at (n * PAGE) (touched (place_of old.state name.0 (a * PAGE)) (n * PAGE)) new.state.content) offset_is effect.0.2);
      ready = effect.1 ∙ ready_too old new effect.0.1;
    },
  )
  TreatsName-from_effect Decommit reply new effect =
      let v = koid_of old.state name.0 in
      let is : new.state.content ≡ zeroed old.state.content v first (first + n) = ap (λ (s : State). s.content) effect.0.1 ∙ (λ i. zeroed old.state.content v (first_is i) (end_is i)) in
      let change : new.state ≡ record old.state { content = new.state.content } =
      effect.0.1 ∙ ap (λ (c : Content). record old.state { content = c }) (sym (ap (λ (s : State). s.content) effect.0.1)) in
      (effect.0.0, record { state = change; treats = is; ready = effect.1 ∙ ready_too old new change })

  pub TreatsName-effect : (kind : JobKind) (new : Machine) → TreatsName kind name.0 a n old new → MachineEffect old (plain_command kind name (a * PAGE) (n * PAGE)) Done new
  TreatsName-effect Commit new done = (
    (refl, done.state, subst (λ (ps : List ℕ). OwnsAll old.state.content (koid_of old.state name.0) ps new.state.content) (sym pages_are) done.treats),
    done.ready ∙ sym (ready_too old new done.state),
  )
  TreatsName-effect Zero new done = (
    (
      refl,
      done.state,
      subst (λ (at : ℕ). Zeroes old.state.content (koid_of old.state name.0) (is_pinned old.state.pins (koid_of old.state name.0)) at (n * PAGE) (touched (place_of old.state name.0 (a * PAGE)) (n * PAGE)) new.state.content) (sym offset_is)
          (subst (λ (ps : List ℕ). Zeroes old.state.content (koid_of old.state name.0) (is_pinned old.state.pins (koid_of old.state name.0)) (first * PAGE) (n * PAGE) ps new.state.content) (sym pages_are) done.treats),
    ),
    done.ready ∙ sym (ready_too old new done.state),
  )
  TreatsName-effect Decommit new done =
      let v = koid_of old.state name.0 in (
        (refl, done.state ∙ ap (λ (c : Content). record old.state { content = c }) (done.treats ∙ sym (λ i. zeroed old.state.content v (first_is i) (end_is i)))),
        done.ready ∙ sym (ready_too old new done.state),
      )

-- ---- the pages behind those that are done

-- no page of a row is pinned where none is of a larger one
fewer_pinned : (s : State) (v first end low high : ℕ) → first ≤ low → high ≤ end → any_pinned s.pins v first end ≡ false → any_pinned s.pins v low high ≡ false
unfolding any_pinned
fewer_pinned s v first end low high from to none =
    none_pinned s.pins v low high (λ p h less. none_from_at (is_pinned s.pins v) first end p none (omega arith) (omega arith))

-- fewer pages ask for less
pub Allows-first : (kind : JobKind) (s : State) (name a n m : ℕ) → Allows kind s name a (n + m) → Allows kind s name a n
Allows-first kind s name a n m allows = record { there = allows.there; may = allows.may; inside = omega (arith, allows.inside); pages = less kind allows.pages } where
  less : (kind : JobKind) → AllowsPages kind s (koid_of s name) ((target_of s name).first + a) (n + m) → AllowsPages kind s (koid_of s name) ((target_of s name).first + a) n
  less Commit room = omega (arith, room, unowned-both s.content (koid_of s name) ((target_of s name).first + a) n m)
  less Zero room = tt
  less Decommit room =
      let first = (target_of s name).first + a in
      (room.0, fewer_pinned s (koid_of s name) first (first + (n + m)) first (first + n) (omega arith) (omega arith) room.1)

-- what the pages behind ask for once the first ones are done, in the state with another content
behind_allows : (kind : JobKind) (s : State) (d : Content) (name a n m : ℕ) → IsGoodState s → Allows kind s name a (n + m)
    → Treats kind (koid_of s name) (is_pinned s.pins (koid_of s name)) ((target_of s name).first + a) n s.content d
    → Allows kind (record s { content = d }) name (a + n) m
unfolding target_of lineage_of
behind_allows kind s d name a n m good allows treats =
    let c = s.content in
    let v = koid_of s name in
    let first = (target_of s name).first + a in
    let room = rows_inside s name a (n + m) good allows.there allows.inside in
    let leaves = Treats-leaves kind v (is_pinned s.pins v) first n c d good.content (omega (arith, room)) treats in
    let size : name_pages d (target_of s name) ≡ name_pages c (target_of s name) = ap (unwrap_or (target_of s name).limit) (leaves.kept.pages v) in
    let at : (target_of s name).first + (a + n) ≡ first + n = omega arith in
    record {
      there = allows.there;
      may = allows.may;
      inside = omega (arith, allows.inside, size);
      pages = subst (λ (p : ℕ). AllowsPages kind (record s { content = d }) v p m) (sym at) (rest kind good leaves treats allows.pages room);
    } where
      rest : (kind : JobKind) → IsGoodState s → Leaves (koid_of s name) ((target_of s name).first + a) ((target_of s name).first + a + n) s.content d
          → Treats kind (koid_of s name) (is_pinned s.pins (koid_of s name)) ((target_of s name).first + a) n s.content d
          → AllowsPages kind s (koid_of s name) ((target_of s name).first + a) (n + m)
          → (target_of s name).first + a + (n + m) ≤ pages_of s.content (koid_of s name)
          → AllowsPages kind (record s { content = d }) (koid_of s name) ((target_of s name).first + a + n) m
      rest Commit good leaves treats asks room =
          let v = koid_of s name in
          let first = (target_of s name).first + a in
          omega (
            arith,
            asks,
            unowned-both s.content v first n m,
            OwnsAll-used v first n s.content d good.content (omega (arith, room)) treats,
            unowned-same s.content d v (first + n) m (λ p low high. leaves.alone p (inr low)),
            leaves.kept.frames,
          )
      rest Zero good leaves treats asks room = tt
      rest Decommit good leaves treats asks room =
          let first = (target_of s name).first + a in
          (asks.0, fewer_pinned s (koid_of s name) first (first + (n + m)) (first + n) (first + n + m) (omega arith) (omega arith) asks.1)

pub Allows-behind : (kind : JobKind) (name a n m : ℕ) (old mid : Machine) → IsGoodState old.state → Allows kind old.state name a (n + m) → TreatsName kind name a n old mid → Allows kind mid.state name (a + n) m
Allows-behind kind name a n m old mid good allows done =
    subst (λ (s : State). Allows kind s name (a + n) m) (sym done.state) (behind_allows kind old.state mid.state.content name a n m good allows done.treats)

-- ---- one after the other

-- what is done to pages of a name in the state with another content is done to the same pages of its VMO
behind_treats : (kind : JobKind) (s : State) (b d : Content) (name a n m : ℕ)
    → Treats kind (koid_of (record s { content = b }) name) (is_pinned s.pins (koid_of (record s { content = b }) name)) ((target_of (record s { content = b }) name).first + (a + n)) m b d
    → Treats kind (koid_of s name) (is_pinned s.pins (koid_of s name)) ((target_of s name).first + a + n) m b d
unfolding target_of
behind_treats kind s b d name a n m treats =
    let at : (target_of s name).first + (a + n) ≡ (target_of s name).first + a + n = omega arith in
    subst (λ (p : ℕ). Treats kind (koid_of s name) (is_pinned s.pins (koid_of s name)) p m b d) at treats

-- the pages of a name are done, and then those behind them
pub TreatsName-both : (kind : JobKind) (name a n m : ℕ) (old mid new : Machine) → IsGoodState old.state → IsSome (old.state.names name) → a + (n + m) ≤ name_pages old.state.content (target_of old.state name)
    → TreatsName kind name a n old mid → TreatsName kind name (a + n) m mid new → TreatsName kind name a (n + m) old new
TreatsName-both kind name a n m old mid new good there inside these those =
    let s = old.state in
    let c = s.content in
    let b = mid.state.content in
    let d = new.state.content in
    let v = koid_of s name in
    let first = (target_of s name).first + a in
    let room = rows_inside s name a (n + m) good there inside in
    let behind : Treats kind v (is_pinned s.pins v) (first + n) m b d = behind_treats kind s b d name a n m
    (subst (λ (t : State). Treats kind (koid_of t name) (is_pinned t.pins (koid_of t name)) ((target_of t name).first + (a + n)) m b d) these.state those.treats) in
    let left = Treats-leaves kind v (is_pinned s.pins v) first n c b good.content (omega (arith, room)) these.treats in
    let more = Treats-leaves kind v (is_pinned s.pins v) (first + n) m b d left.kept.good (omega (arith, room, left.kept.pages v)) behind in
    record {
      state = those.state ∙ ap (λ (t : State). record t { content = d }) these.state;
      treats = Treats-both kind v (is_pinned s.pins v) first n m c b d these.treats behind;
      ready = those.ready
          ∙ (ap (λ (t : State). settled b d t.spaces.table mid.ready) these.state
          ∙ (ap (settled b d s.spaces.table) these.ready ∙ settled-twice c b d (AreApart-rows v first (first + n) (first + n + m) c b d left more) s.spaces.table old.ready));
    }
