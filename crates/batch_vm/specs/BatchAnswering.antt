-- The machine with jobs as one that answers the lines of a script by text.
use Rattle.std.specs.Prelude.{◌≡◌, ℕ, ◌<◌, cond, List, [], length, None, refl}
use Rattle.std.proofs.Common.{sym, subst}
use Rattle.std.proofs.lemmas.Bool.Decides.{Decides-ltb}
use Rattle.vm_base.specs.declared.limits.TheConstants.{LINE_BYTES}
use Rattle.vm_model.specs.Language.Reading.{Outside as PlainOutside, reading, reading_of_words, words}
use Rattle.batch_model.specs.BatchWords.{BatchReply}
use Rattle.batch_model.specs.Batch.{BatchState, BatchStep, IsGoodBatch, empty_batch}
use Rattle.batch_model.specs.BatchLanguage.{BatchReading, Blank, Order, Outside, batch_reading, reading_beside, job_order, batch_text}
use Rattle.line_server.specs.Answering.{Answering, syntax_text}

-- what a line that is read so may give: a blank line no text, a line outside the grammar its refusal, an order one step and the
-- text of its reply
abbrev pub GivesBatchAs : BatchReading → BatchState → List ℕ → BatchState → Type 0
GivesBatchAs Blank old out new = (out ≡ []) × (new ≡ old)
GivesBatchAs (Order command) old out new = (reply : BatchReply) × (out ≡ batch_text reply) × BatchStep old command reply new
GivesBatchAs Outside old out new = (out ≡ syntax_text) × (new ≡ old)

-- from old, the line may be answered by this text and lead to new
pub record GivesBatch (line : List ℕ) (old : BatchState) (out : List ℕ) (new : BatchState) : Type 0 where
  pub answer : GivesBatchAs (batch_reading line) old out new

-- the machine with jobs
abbrev pub batch_rules : Answering BatchState
batch_rules = record { start = empty_batch; content = λ s. s.machine.state.content; IsGood = IsGoodBatch; Gives = GivesBatch }

-- a line over the limit is outside the grammar
pub batch_reading-long : (line : List ℕ) → LINE_BYTES < length line → batch_reading line ≡ Outside
unfolding batch_reading reading
batch_reading-long line long =
    let over = (Decides-ltb LINE_BYTES (length line)).1 long in
    λ i. reading_beside (cond (over i) PlainOutside (reading_of_words (words line))) (cond (over i) None (job_order (words line)))

pub GivesBatch-long : (s : BatchState) (line : List ℕ) → LINE_BYTES < length line → GivesBatch line s syntax_text s
GivesBatch-long s line long = record { answer = subst (λ (r : BatchReading). GivesBatchAs r s syntax_text s) (sym (batch_reading-long line long)) (refl, refl) }
