-- The machine of page sources as one that answers the lines of a script by text.
use Rattle.std.specs.Prelude.{◌≡◌, ℕ, ◌<◌, cond, List, [], length, refl}
use Rattle.std.proofs.Common.{sym, subst, ap, Bool}
use Rattle.std.proofs.lemmas.Bool.Decides.{Decides-ltb}
use Rattle.vm_base.specs.declared.limits.TheConstants.{LINE_BYTES}
use Rattle.vm_model.specs.Machine.Words.{Reply}
use Rattle.vm_model.specs.Language.Reading.{words}
use Rattle.vm_model.specs.Language.Text.{text}
use Rattle.line_server.specs.Answering.{Answering, syntax_text}
use Rattle.source_model.specs.State.{SourceState, empty_sources}
use Rattle.source_model.specs.Commands.{SourceStep}
use Rattle.source_model.specs.Good.{IsGoodSources}
use Rattle.source_vm.specs.Reading.{SourceReading, Blank, Order, Outside, source_reading, source_reading_of_words}

-- by which text a line that is read so may be answered: a blank line by none, a line outside the grammar by its refusal, an
-- order by that of one step's reply
abbrev pub SourceGivesAs : SourceReading → SourceState → List ℕ → SourceState → Type 0
SourceGivesAs Blank old out new = (out ≡ []) × (new ≡ old)
SourceGivesAs (Order command) old out new = (reply : Reply) × (out ≡ text reply) × SourceStep old command reply new
SourceGivesAs Outside old out new = (out ≡ syntax_text) × (new ≡ old)

-- from old, the line may be answered by this text and lead to new
pub record SourceGives (line : List ℕ) (old : SourceState) (out : List ℕ) (new : SourceState) : Type 0 where
  pub answer : SourceGivesAs (source_reading line) old out new

-- the machine of page sources
abbrev pub source_rules : Answering SourceState
source_rules = record { start = empty_sources; content = λ s. s.content; IsGood = IsGoodSources; Gives = SourceGives }

-- a line over the limit is outside the grammar
pub source_reading-long : (line : List ℕ) → LINE_BYTES < length line → source_reading line ≡ Outside
unfolding source_reading
source_reading-long line long =
    ap (λ (over : Bool). cond over Outside (source_reading_of_words (words line))) ((Decides-ltb LINE_BYTES (length line)).1 long)

pub SourceGives-long : (s : SourceState) (line : List ℕ) → LINE_BYTES < length line → SourceGives line s syntax_text s
SourceGives-long s line long = record {
  answer = subst (λ (r : SourceReading). SourceGivesAs r s syntax_text s) (sym (source_reading-long line long)) (refl, refl);
}
