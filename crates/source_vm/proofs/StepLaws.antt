-- Laws of steps: what a call found and did is a step of its command.
use Rattle.std.proofs.Common.{◌≡◌, ℕ, ◌+◌, ◌*◌, ◌<◌, ◌≤◌, ◌-◌, nat_le, ◌%◌, ◌==◌, inl, inr, Bool, true, false, [], ◌∷◌, nat_lt, Option, None, Some, refl, sym, ap, subst, ◌∙◌, arith}
use Rattle.std.specs.Prelude.{IsTrue, ◌↔◌}
use Rattle.std.proofs.lemmas.Bool.{lt-ltb, ltb-true, le-leb, leb-true, false_from_ne_true}
use Rattle.vm_base.specs.declared.limits.TheConstants.{PAGE}
use Rattle.vm_base.proofs.SearchLaws.{eqb_same}
use Rattle.vm_base.specs.declared.refusal.Refusal.{Refusal}
use Rattle.vm_base.specs.declared.refusal.Refusal.TheVariants.{NoMemory, HostMemory}
use Rattle.vm_model.specs.Machine.Words.{Reply}
use Rattle.vm_model.specs.declared.reply.Reply.TheVariants.{Refused}
use Rattle.vm_model.specs.Contents.Content.{Content, used}
use Rattle.vm_model.specs.Machine.Refusals.{first_of}
use Rattle.source_model.specs.Words.{SourceCommand}
use Rattle.source_model.specs.declared.backing.Backing.{Backing}
use Rattle.source_model.specs.State.{SourceState, state_over}
use Rattle.source_model.specs.Commands.{SourceStep, SourceStepAfter, SourceEffect, source_refusals, source_may_lack_memory, lacks}
use Rattle.source_model.specs.declared.link.Link.{Link}
use Rattle.source_model.specs.Good.{IsGoodSources}
use Rattle.source_model.proofs.KeepLaws.{state_is}
use Rattle.source_model.proofs.GoodLaws.{SourceStep-keeps}
use Rattle.source_vm.specs.Pages.{LacksFrames}

-- a range that lies in its VMO, and one that does not
pub in_range : (answer : Bool) (bytes end : ℕ) → IsTrue answer ↔ (end ≤ bytes) → answer ≡ true → nat_lt bytes end ≡ false
in_range answer bytes end test e = false_from_ne_true (nat_lt bytes end) (λ past. let less = ltb-true bytes end past in omega (arith, less, test.0 e))

pub out_of_range : (answer : Bool) (bytes end : ℕ) → IsTrue answer ↔ (end ≤ bytes) → answer ≡ false → nat_lt bytes end ≡ true
out_of_range answer bytes end test e = lt-ltb bytes end (past (λ inside. let yes = test.1 inside in cc)) where
  past : (end ≤ bytes → ⊥) → bytes < end
  past outside = omega (arith, outside)

module _ (s : SourceState) (command : SourceCommand) where
  pub refused : (refusal : Refusal) → first_of (source_refusals s command) ≡ Some refusal → SourceStep s command (Refused refusal) s
  refused refusal e = record {
    outcome = subst (λ (o : Option Refusal). SourceStepAfter o s command (Refused refusal) s) (sym e) (record { answer = refl; same = refl });
  }

  pub lacked : first_of (source_refusals s command) ≡ None → source_may_lack_memory s command ≡ true → SourceStep s command (Refused HostMemory) s
  lacked e lack = record {
    outcome = subst (λ (o : Option Refusal). SourceStepAfter o s command (Refused HostMemory) s) (sym e) (inr (record { answer = refl; same = refl }, lack));
  }

  pub done : (reply : Reply) (new : SourceState) → first_of (source_refusals s command) ≡ None → SourceEffect s command reply new → SourceStep s command reply new
  done reply new e effect = record {
    outcome = subst (λ (o : Option Refusal). SourceStepAfter o s command reply new) (sym e) (inl effect);
  }

  -- the frames that a command takes are the last that may be refused
  pub short : (n : ℕ) (refusal : Refusal) → first_of (source_refusals s command) ≡ first_of ((lacks s n, NoMemory) ∷ []) → source_may_lack_memory s command ≡ nat_lt 0 n
      → LacksFrames s.content n refusal → SourceStep s command (Refused refusal) s
  short n refusal rows wants (inl few) =
      subst (λ (r : Refusal). SourceStep s command (Refused r) s) (sym few.0)
      (refused NoMemory (rows ∙ ap (λ (t : Bool). first_of ((t, NoMemory) ∷ [])) (lt-ltb s.content.frames (used s.content + n) few.1)))
  short n refusal rows wants (inr host) =
      subst (λ (r : Refusal). SourceStep s command (Refused r) s) (sym host.0)
      (lacked (rows ∙ ap (λ (t : Bool). first_of ((t, NoMemory) ∷ [])) (enough host.1)) (wants ∙ lt-ltb 0 n host.2)) where
        enough : used s.content + n ≤ s.content.frames → lacks s n ≡ false
        enough h = false_from_ne_true (lacks s n) (λ past. let less = ltb-true s.content.frames (used s.content + n) past in omega (arith, less, h))

pub not_lacking : (s : SourceState) (n : ℕ) → used s.content + n ≤ s.content.frames → lacks s n ≡ false
not_lacking s n h = false_from_ne_true (lacks s n) (λ past. let less = ltb-true s.content.frames (used s.content + n) past in omega (arith, less, h))

-- the test of a range, where its length is no more than the VMO has, and where it is more
pub range_fits : (offset len n p : ℕ) → len ≤ n * PAGE → p ≡ n → IsTrue (nat_le offset (n * PAGE - len)) ↔ (offset + len ≤ p * PAGE)
range_fits offset len n p h e = (
  λ t. let low = leb-true offset (n * PAGE - len) t in omega (arith, low, h, e),
  λ inside. le-leb offset (n * PAGE - len) (omega (arith, inside, e)),
)

pub range_past : (offset len n p : ℕ) (answer : Bool) → (len ≤ n * PAGE → ⊥) → (IsTrue answer → len ≤ n * PAGE) → p ≡ n → IsTrue answer ↔ (offset + len ≤ p * PAGE)
range_past offset len n p answer over says e = (
  λ t. absurd (over (says t)),
  λ inside. absurd (over (omega (arith, inside, e))),
)

-- a refusal, where the store contains what it did
pub kept_content : (c d : Content) (names : ℕ → Option ℕ) (bs : ℕ → Option Backing) (ls : ℕ → Option Link) (command : SourceCommand) (reply : Reply) → d ≡ c
    → SourceStep (state_over c names bs ls) command reply (state_over c names bs ls) → SourceStep (state_over c names bs ls) command reply (state_over d names bs ls)
kept_content c d names bs ls command reply same step =
    subst (λ (x : Content). SourceStep (state_over c names bs ls) command reply (state_over x names bs ls)) (sym same) step

-- a refusal, where the tables are what they were as well
pub kept_all : (c d : Content) (names ns : ℕ → Option ℕ) (bs bs_new : ℕ → Option Backing) (ls ls_new : ℕ → Option Link) (command : SourceCommand) (reply : Reply)
    → d ≡ c → ns ≡ names → bs_new ≡ bs → ls_new ≡ ls
    → SourceStep (state_over c names bs ls) command reply (state_over c names bs ls) → SourceStep (state_over c names bs ls) command reply (state_over d ns bs_new ls_new)
kept_all c d names ns bs bs_new ls ls_new command reply e f g h step = rw (e, f, g, h) step

-- A step to a state that is written out, where the content, the names, the backings and the links are those of that state: its text is
-- what look-ups find there.
pub settled : (s w : SourceState) (command : SourceCommand) (reply : Reply) (c : Content) (names : ℕ → Option ℕ) (bs : ℕ → Option Backing) (ls : ℕ → Option Link)
    → IsGoodSources s → SourceStep s command reply w → c ≡ w.content → names ≡ w.names → bs ≡ w.backing → ls ≡ w.link
    → SourceStep s command reply (state_over c names bs ls)
settled s w command reply c names bs ls good step content_is names_is bs_is ls_is =
    subst (SourceStep s command reply)
    (state_is w (SourceStep-keeps s w command reply good step).good
    ∙ sym (ap (λ (x : Content). state_over x names bs ls) content_is
    ∙ (ap (λ (ns : ℕ → Option ℕ). state_over w.content ns bs ls) names_is
    ∙ (ap (λ (b : ℕ → Option Backing). state_over w.content w.names b ls) bs_is
    ∙ ap (λ (k : ℕ → Option Link). state_over w.content w.names w.backing k) ls_is))))
    step

pub no_more : (most n : ℕ) → n ≤ most → nat_lt most n ≡ false
no_more most n h = false_from_ne_true (nat_lt most n) (λ past. let less = ltb-true most n past in omega (arith, less, h))

pub aligned_from : (offset rest : ℕ) → rest ≡ offset % PAGE → rest ≡ 0 → (offset % PAGE == 0) ≡ true
aligned_from offset rest e zero_rest = ap (λ (n : ℕ). n == 0) (sym e ∙ zero_rest) ∙ eqb_same 0
