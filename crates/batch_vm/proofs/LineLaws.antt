-- What answering one line of a script on a machine with jobs comes to, and its beginning.
use Rattle.std.proofs.Common.{◌≡◌, ℕ, List, Option, Result, Ok, Err, refl, subst}
use Rattle.std.specs.Prelude.{OnOk, OnErr}
use Rattle.std.specs.Io.KnownBytes.{Appends}
use Rattle.script_io.specs.Faults.{IsCutOff}
use Rattle.vm_model.specs.Contents.Content.{Content, nothing, HasNoVmo}
use Rattle.vm_model.proofs.MachineLaws.{IsGoodMachine-empty}
use Rattle.vm_core.proofs.AgreeLaws.{agrees_good}
use Rattle.vm_core.proofs.StartLaws.{filled_fresh}
use Rattle.line_server.specs.Answering.{syntax_text}
use Rattle.line_server.specs.Outcome.{SinkTakes, AnswersLine}
use Rattle.batch_model.specs.BatchWords.{BatchCommand, BatchReply}
use Rattle.batch_model.specs.Batch.{BatchState, BatchStep, IsGoodBatch, empty_batch}
use Rattle.batch_model.specs.BatchLanguage.{BatchReading, Order, Outside, batch_reading, batch_text}
use Rattle.batch_vm.specs.Batch.{BatchParts, batch_of, AgreesBatch}
use Rattle.batch_vm.specs.BatchAnswering.{GivesBatchAs, batch_rules}

-- a text that was pushed, whole or in part
taken : {T E : Type 0} (result : Result T E) (before after : Option (List ℕ)) (out : List ℕ) → OnOk result (Appends before after out) → OnErr result (IsCutOff before after out) → SinkTakes result before after out
taken (Ok x) before after out ok err = ok
taken (Err e) before after out ok err = err

-- a line that is an order, one step, and its reply
pub AnswersLine-order : {T E : Type 0} (line : List ℕ) (command : BatchCommand) (old new : BatchState) (reply : BatchReply) (before after : Option (List ℕ)) (result : Result T E)
    → Order command ≡ batch_reading line → BatchStep old command reply new → OnOk result (Appends before after (batch_text reply)) → OnErr result (IsCutOff before after (batch_text reply))
    → AnswersLine batch_rules line old new before after result
AnswersLine-order line command old new reply before after result e step ok err = record {
  text = batch_text reply;
  gives = record { answer = subst (λ (r : BatchReading). GivesBatchAs r old (batch_text reply) new) e (reply, refl, step) };
  written = taken result before after (batch_text reply) ok err;
}

-- a line outside the grammar, and its refusal
pub AnswersLine-outside : {T E : Type 0} (line : List ℕ) (old : BatchState) (before after : Option (List ℕ)) (result : Result T E)
    → Outside ≡ batch_reading line → OnOk result (Appends before after syntax_text) → OnErr result (IsCutOff before after syntax_text) → AnswersLine batch_rules line old old before after result
AnswersLine-outside line old before after result e ok err = record {
  text = syntax_text;
  gives = record { answer = subst (λ (r : BatchReading). GivesBatchAs r old syntax_text old) e (refl, refl) };
  written = taken result before after syntax_text ok err;
}

-- what agrees is good
pub AgreesBatch-good : (c : Content) (batch : BatchParts) → AgreesBatch c batch → IsGoodBatch (batch_of c batch)
AgreesBatch-good c batch agrees = record { machine = agrees_good c batch.vm agrees.vm; jobs = agrees.jobs }

-- the empty machine with jobs is good
pub IsGoodBatch-empty : (frames : ℕ) → IsGoodBatch (empty_batch frames)
unfolding empty_batch
IsGoodBatch-empty frames = record { machine = IsGoodMachine-empty frames; jobs = λ n job e. absurd cc }

-- a store with page frames and nothing else has no VMO, and its first koid is 1
pub fresh : (frames : ℕ) → HasNoVmo (record nothing { frames = frames }) × ((record nothing { frames = frames }).next ≡ 1)
fresh frames = filled_fresh frames (record nothing { frames = frames }) nothing refl refl
