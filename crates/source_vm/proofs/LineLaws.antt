-- What answering one line of a script of page sources comes to, and its beginning.
use Rattle.std.proofs.Common.{◌≡◌, ℕ, List, Option, None, Some, Result, refl, sym, ap, subst, ◌∙◌}
use Rattle.std.specs.Prelude.{OnOk, OnErr}
use Rattle.std.specs.Io.KnownBytes.{Appends}
use Rattle.script_io.specs.Faults.{IsCutOff}
use Rattle.vm_base.specs.Pages.{zeros}
use Rattle.vm_model.specs.Machine.Words.{Reply}
use Rattle.vm_model.specs.Contents.Content.{Content, Page, nothing, IsGood}
use Rattle.vm_model.specs.Language.Text.{text}
use Rattle.vm_model.proofs.LeavingLaws.{page_none}
use Rattle.line_server.specs.Answering.{syntax_text}
use Rattle.line_server.specs.Outcome.{AnswersLine}
use Rattle.line_server.proofs.Answered.{written_or_cut}
use Rattle.source_model.specs.declared.backing.Backing.{Backing}
use Rattle.source_model.specs.Words.{SourceCommand}
use Rattle.source_model.specs.Sources.{backing_text}
use Rattle.source_model.specs.State.{SourceState, state_over, empty_sources}
use Rattle.source_model.specs.Commands.{SourceStep}
use Rattle.source_model.specs.Good.{IsGoodSources}
use Rattle.source_model.specs.declared.link.Link.{Link}
use Rattle.source_model.specs.Links.{page_below, walked}
use Rattle.vm_model.specs.Contents.Owning.{VmoPage}
use Rattle.source_model.proofs.LinkLaws.{below-unlinked, walked-end}
use Rattle.source_vm.proofs.FillingLaws.{text-free}
use Rattle.source_vm.specs.Reading.{SourceReading, Order, Outside, source_reading}
use Rattle.source_vm.specs.Answering.{SourceGivesAs, source_rules}

-- a line that is an order, one step, and its reply
pub AnswersLine-order : {T E : Type 0} (line : List ℕ) (command : SourceCommand) (old new : SourceState) (reply : Reply) (before after : Option (List ℕ)) (result : Result T E)
    → Order command ≡ source_reading line → SourceStep old command reply new → OnOk result (Appends before after (text reply)) → OnErr result (IsCutOff before after (text reply))
    → AnswersLine source_rules line old new before after result
AnswersLine-order line command old new reply before after result e step ok err = record {
  text = text reply;
  gives = record { answer = subst (λ (r : SourceReading). SourceGivesAs r old (text reply) new) e (reply, refl, step) };
  written = written_or_cut result before after (text reply) ok err;
}

-- a line outside the grammar, and its refusal
pub AnswersLine-outside : {T E : Type 0} (line : List ℕ) (old : SourceState) (before after : Option (List ℕ)) (result : Result T E)
    → Outside ≡ source_reading line → OnOk result (Appends before after syntax_text) → OnErr result (IsCutOff before after syntax_text) → AnswersLine source_rules line old old before after result
AnswersLine-outside line old before after result e ok err = record {
  text = syntax_text;
  gives = record { answer = subst (λ (r : SourceReading). SourceGivesAs r old syntax_text old) e (refl, refl) };
  written = written_or_cut result before after syntax_text ok err;
}

-- ---- a machine with no names and no VMOs

-- its text is zeros
bare_text : (c : Content) (v p : ℕ) → IsGood c → c.count v ≡ None → walked c (λ w. None) (page_below c (λ w. None)) v p ≡ zeros
unfolding backing_text
bare_text c v p good none =
    walked-end c (λ w. None) (page_below c (λ w. None)) v p (below-unlinked c (λ w. None) v p refl)
    ∙ text-free c (λ w. None) v p (page_none c v p good none)

-- its state, over a store that has no VMO
pub bare : (c : Content) (names : ℕ → Option ℕ) (backing : ℕ → Option Backing) (link : ℕ → Option Link) → IsGood c → ((v : ℕ) → c.count v ≡ None)
    → names ≡ (λ n. None) → backing ≡ (λ v. None) → link ≡ (λ v. None) → state_over c names backing link ≡ record (empty_sources c.frames) { content = c }
unfolding empty_sources
bare c names backing link good none no_names no_backing no_link =
    ap (λ (ns : ℕ → Option ℕ). state_over c ns backing link) no_names
    ∙ (ap (λ (bs : ℕ → Option Backing). state_over c (λ n. None) bs link) no_backing
    ∙ (ap (λ (ls : ℕ → Option Link). state_over c (λ n. None) (λ v. None) ls) no_link
    ∙ λ i. record {
      content = c;
      names = λ n. None;
      backing = λ v. None;
      link = λ v. None;
      text = λ v p. bare_text c v p good (none v) i;
    }))

-- it is good
pub IsGoodSources-bare : (c : Content) → IsGood c → ((v : ℕ) → c.count v ≡ None) → IsGoodSources (record (empty_sources c.frames) { content = c })
unfolding empty_sources backing_text
IsGoodSources-bare c good none = record {
  content = good;
  counts = λ v n e. absurd (let no = none v in cc);
  live = λ v h. absurd (let no = none v in cc);
  known = λ n v e. absurd cc;
  once = λ n m v e f. absurd cc;
  either = λ v h. absurd (let no = none v in cc);
  others = λ v e. (refl, refl);
  backing = λ v b e. absurd cc;
  link = λ v l e. absurd cc;
  text = record {
    own = λ v p held e. absurd (let no : ◌≡◌ {A = Option Page} None (Some held) = sym (page_none c v p good (none v)) ∙ e in cc);
    shown = λ v p at e. absurd (let no : ◌≡◌ {A = Option VmoPage} None (Some at) = sym (below-unlinked c (λ w. None) v p refl) ∙ e in cc);
    backed = λ v p free e. refl;
  };
}

pub fresh : (frames v : ℕ) → (record nothing { frames = frames }).count v ≡ None
unfolding nothing
fresh frames v = refl

pub starts : (frames : ℕ) → record (empty_sources frames) { content = record nothing { frames = frames } } ≡ empty_sources frames
unfolding empty_sources
starts frames = refl
