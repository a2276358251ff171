-- The steps of reads and supplies, by what was found absent and supplied.
use Rattle.std.proofs.Common.{◌≡◌, ℕ, ◌+◌, ◌*◌, ◌-◌, ◌≤◌, ◌&&◌, not, Bool, true, false, List, length, map, nat_lt, Option, None, Some, refl, sym, ap, subst, ◌∙◌, arith}
use Rattle.std.specs.Prelude.{IsSome, is_some}
use Rattle.std.specs.List.{filter, range_with_len}
use Rattle.vm_base.specs.declared.limits.TheConstants.{PAGE, DATA_BYTES}
use Rattle.vm_base.specs.declared.names.VmoName.{VmoName}
use Rattle.vm_base.specs.declared.refusal.Refusal.{Refusal}
use Rattle.vm_base.proofs.EntryLaws.{none_is, some_is}
use Rattle.vm_model.specs.declared.reply.Reply.TheVariants.{Done, Bytes, Refused}
use Rattle.vm_model.specs.Contents.Content.{Content, used, pages_of}
use Rattle.vm_model.specs.Contents.Writing.{Piece, touched}
use Rattle.source_model.specs.declared.backing.Backing.{Backing}
use Rattle.source_model.specs.declared.link.Link.{Link}
use Rattle.source_model.specs.declared.command.SourceCommand.TheVariants.{Read, Supply}
use Rattle.source_model.specs.State.{SourceState, state_over, is_absent, wanted, FillsEach, text_in}
use Rattle.source_model.specs.Commands.{SourceStep, is_aligned}
use Rattle.source_model.specs.Good.{IsGoodSources}
use Rattle.source_vm.specs.Pages.{Backings, LooseLinks, IsReadable, IsSupplied, FillsPages, LacksFrames, absent_ends, absent_touched, end_piece}
use Rattle.source_vm.proofs.EndLaws.{wanted-pieces, wanted-length, absent_ends-unlinked, pieces-unlinked}
use Rattle.source_vm.proofs.ReadLaws.{text_in-same}
use Rattle.source_vm.proofs.TextLaws.{supplied-text}
use Rattle.source_vm.proofs.RowLaws.{read_short, read_done, supply_short, supply_done}

-- a VMO with a backing has no link
pub unlinked_of : (s : SourceState) (v : ℕ) (b : Backing) → IsGoodSources s → IsSome (s.content.count v) → s.backing v ≡ Some b → s.link v ≡ None
unlinked_of s v b good there e = none_is (s.link v) (go (is_some (s.link v)) (sym (ap is_some e) ∙ good.either v there)) where
  go : (bit : Bool) → true ≡ not bit → bit ≡ false
  go true f = absurd cc
  go false f = cc

-- one without a backing has one
pub linked_of : (s : SourceState) (v : ℕ) → IsGoodSources s → IsSome (s.content.count v) → s.backing v ≡ None → (l : Link) × (s.link v ≡ Some l)
linked_of s v good there e = some_is (s.link v) (go (is_some (s.link v)) (sym (ap is_some e) ∙ good.either v there)) where
  go : (bit : Bool) → false ≡ not bit → bit ≡ true
  go true f = cc
  go false f = absurd cc

-- pages of a good state may be looked up
pub readable_of : (c : Content) (names : ℕ → Option ℕ) (bs : Backings) (ls : LooseLinks) → IsGoodSources (state_over c names bs ls) → IsReadable c bs ls
readable_of c names bs ls good = record {
  good = good.content;
  sources = λ v b e. record { kind = (good.backing v b e).kind; inside = (good.backing v b e).inside };
  smaller = λ v l e. (good.link v l e).smaller;
  inside = λ v l e. (good.link v l e).inside;
  either = λ v b e. unlinked_of (state_over c names bs ls) v b good (there v b e) e;
} where
  there : (v : ℕ) (b : Backing) → bs v ≡ Some b → IsSome (c.count v)
  there v b e = go (c.count v) refl where
    go : (o : Option ℕ) → c.count v ≡ o → IsSome (c.count v)
    go (Some n) f = ap is_some f
    go None f = absurd (let no : ◌≡◌ {A = Option Backing} None (Some b) = sym (good.others v f).0 ∙ e in cc)

module _ (c : Content) (names : ℕ → Option ℕ) (bs : Backings) (ls : LooseLinks) (name : VmoName) (v : ℕ) (named : names name.0 ≡ Some v) (offset len : ℕ)
    (inside : nat_lt (pages_of c v * PAGE) (offset + len) ≡ false) where
  abbrev s : SourceState
  s = state_over c names bs ls

  -- ---- reads
  module _ (few : nat_lt DATA_BYTES len ≡ false) (n : ℕ) (size : n ≡ len) where
    absent_is_of : absent_touched bs ls c v offset n ≡ absent_touched bs ls c v offset len
    absent_is_of = ap (absent_touched bs ls c v offset) size

    need_is : length (absent_touched bs ls c v offset n) ≡ length (wanted s v (touched offset len))
    need_is = ap (λ (ps : List ℕ). length ps) absent_is_of ∙ sym (wanted-length s v (touched offset len))

    pub read_supplied : (d : Content) (out : List ℕ) → used c + length (absent_touched bs ls c v offset n) ≤ c.frames → out ≡ text_in (state_over d names bs ls) v offset n
        → FillsPages bs ls c (map (end_piece ls c v) (absent_touched bs ls c v offset n)) d → SourceStep s (Read name offset len) (Bytes out) (state_over d names bs ls)
    read_supplied d out enough is fills =
        read_done s name v named offset len few inside out (state_over d names bs ls) (omega (arith, enough, need_is))
        (is ∙ (ap (text_in (state_over d names bs ls) v offset) size
        ∙ text_in-same s (state_over d names bs ls) v offset len (supplied-text c d names bs ls v (absent_touched bs ls c v offset n) fills)))
        (subst (λ (parts : List Piece). FillsEach s parts (state_over d names bs ls))
        (ap (map (end_piece ls c v)) absent_is_of ∙ sym (wanted-pieces s v (touched offset len))) (fills.each names))

    pub read_refused : (refusal : Refusal) → LacksFrames c (length (absent_touched bs ls c v offset n)) refusal → SourceStep s (Read name offset len) (Refused refusal) s
    read_refused refusal lacks = read_short s name v named offset len few inside refusal (subst (λ (n : ℕ). LacksFrames c n refusal) need_is lacks)

  -- ---- supplies
  module _ (first end : ℕ) (pages : touched offset len ≡ range_with_len first (end - first)) (b : Backing) (backed : bs v ≡ Some b) (unlinked : ls v ≡ None)
      (aligned : (is_aligned offset && is_aligned len) ≡ true) where
    absent_is : absent_ends bs ls c v first end ≡ filter (is_absent c (Some b) v) (range_with_len first (end - first))
    absent_is = absent_ends-unlinked c bs ls v b backed unlinked first end

    pub supply_supplied : (d : Content) → used c + length (absent_ends bs ls c v first end) ≤ c.frames → IsSupplied bs ls v c first end d
        → SourceStep s (Supply name offset len) Done (state_over d names bs ls)
    supply_supplied d enough supplied =
        supply_done s name v named b backed unlinked first end offset len pages aligned inside (state_over d names bs ls)
        (subst (λ (ps : List ℕ). used c + length ps ≤ c.frames) absent_is enough)
        (subst (λ (parts : List Piece). FillsEach s parts (state_over d names bs ls))
        (ap (map (end_piece ls c v)) absent_is ∙ pieces-unlinked c bs ls v b backed unlinked (filter (is_absent c (Some b) v) (range_with_len first (end - first))))
        (supplied.fills.each names))

    pub supply_lacks : (refusal : Refusal) → LacksFrames c (length (absent_ends bs ls c v first end)) refusal → SourceStep s (Supply name offset len) (Refused refusal) s
    supply_lacks refusal lacks =
        supply_short s name v named b backed unlinked first end offset len pages aligned inside refusal
        (subst (λ (ps : List ℕ). LacksFrames c (length ps) refusal) absent_is lacks)
