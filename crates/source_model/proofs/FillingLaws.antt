-- Laws of filling a page.
use Rattle.std.proofs.Common.{◌≡◌, ℕ, ◌+◌, ◌*◌, ◌<◌, ◌≤◌, ◌&&◌, nat_lt, not, map, zero, suc, Bool, true, false, cond, List, [], ◌∷◌, ◌++◌, length, drop, Option, None, Some, refl, ap, ◌∙◌, append-nil, arith}
use Rattle.std.proofs.Math.Seq.{drop-nil}
use Rattle.std.proofs.lemmas.List.FromFn.{length-map-range_with_len}
use Rattle.std.proofs.lemmas.Bool.{false_from_ne_true, lt-ltb, ltb-true}
use Rattle.vm_base.specs.declared.limits.TheConstants.{PAGE}
use Rattle.vm_base.specs.Pages.{zeros, replaced}
use Rattle.vm_base.proofs.PageLaws.{length-zeros}
use Rattle.vm_model.specs.Contents.Content.{Content, Page, IsGood}
use Rattle.source_model.specs.declared.backing.Backing.{Backing}
use Rattle.source_model.specs.Sources.{source_byte, source_page, backing_text, held_text}
use Rattle.std.specs.Prelude.{is_some}
use Rattle.vm_base.specs.Entries.{passes}
use Rattle.source_model.specs.State.{is_absent}
use Rattle.std.specs.List.{range_with_len}

-- ---- texts

pub length-backing_text : (b : Option Backing) (q : ℕ) → length (backing_text b q) ≡ PAGE
unfolding backing_text source_page
length-backing_text None q = length-zeros
length-backing_text (Some b) q = go (nat_lt q b.seen) where
  go : (bit : Bool) → length (cond bit (source_page b.kind b.seed (b.base + q)) zeros) ≡ PAGE
  go true = length-map-range_with_len (source_byte b.kind b.seed) ((b.base + q) * PAGE) PAGE
  go false = length-zeros

pub length-held_text : (c : Content) (v p : ℕ) (b : Option Backing) → IsGood c → length (held_text (c.page v p) (backing_text b p)) ≡ PAGE
unfolding held_text
length-held_text c v p b good = go (c.page v p) refl where
  go : (o : Option Page) → c.page v p ≡ o → length (held_text o (backing_text b p)) ≡ PAGE
  go None e = length-backing_text b p
  go (Some held) e = good.whole v p held e

drop_all : (n : ℕ) (xs : List ℕ) → length xs ≤ n → drop n xs ≡ []
drop_all n [] h = drop-nil n
drop_all zero (x ∷ xs) h = absurd (omega arith)
drop_all (suc n) (x ∷ xs) h = drop_all n xs (omega arith)

-- a whole page that is replaced
pub replaced-whole : (old new : List ℕ) → length old ≡ length new → replaced old 0 new ≡ new
unfolding replaced
replaced-whole old new e =
    let none : drop (0 + length new) old ≡ [] = drop_all (0 + length new) old (omega (arith, e)) in
    ap (λ (xs : List ℕ). new ++ xs) none ∙ append-nil new

-- a page with no bytes replaced
pub replaced-none : (old : List ℕ) → replaced old 0 [] ≡ old
unfolding replaced
replaced-none old = refl

-- ---- absent pages

pub absent-zero : (c : Content) (b : Backing) (v p : ℕ) → c.page v p ≡ None → is_absent c (Some b) v p ≡ nat_lt p b.seen
unfolding is_absent passes
absent-zero c b v p e = ap (λ (o : Option Page). not (is_some o) && nat_lt p b.seen) e

pub absent-held : (c : Content) (b : Option Backing) (v p : ℕ) (held : Page) → c.page v p ≡ Some held → is_absent c b v p ≡ false
unfolding is_absent
absent-held c b v p held e = ap (λ (o : Option Page). not (is_some o) && passes (λ (x : Backing). nat_lt p x.seen) b) e

-- ---- what a backing gives

pub backing-seen : (b : Backing) (p : ℕ) → p < b.seen → backing_text (Some b) p ≡ map (source_byte b.kind b.seed) (range_with_len ((b.base + p) * PAGE) PAGE)
unfolding backing_text source_page
backing-seen b p h = ap (λ (t : Bool). cond t (map (source_byte b.kind b.seed) (range_with_len ((b.base + p) * PAGE) PAGE)) zeros) (lt-ltb p b.seen h)

pub backing-behind : (b : Backing) (p : ℕ) → b.seen ≤ p → backing_text (Some b) p ≡ zeros
unfolding backing_text
backing-behind b p h = ap (λ (t : Bool). cond t (source_page b.kind b.seed (b.base + p)) zeros) (false_from_ne_true (nat_lt p b.seen) (λ e. let less : p < b.seen = ltb-true p b.seen e in omega (arith, less, h)))
