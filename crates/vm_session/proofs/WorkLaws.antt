-- Laws of a workload that is under way.
use Rattle.std.proofs.Common.{◌≡◌, ℕ, suc, ◌+◌, ◌≤◌, Bool, true, false, List, [], ◌∷◌, Option, refl, sym, ap, subst, ◌∙◌, arith}
use Rattle.vm_model.specs.Machine.Words.{Command, Reply}
use Rattle.vm_model.specs.Contents.Content.{used, vmos_of}
use Rattle.vm_model.specs.Language.Text.{ok_line}
use Rattle.vm_model.specs.Machine.Machine.{Machine, IsGoodMachine, empty_machine}
use Rattle.vm_model.specs.Machine.MachineStep.{MachineStep}
use Rattle.vm_model.specs.Scripts.Workload.{number_after, command_for, workload, StepsThrough, is_success, is_refusal, is_lack, reply_count, workload_line}
use Rattle.vm_session.specs.declared.tally.Tally.{Tally}
use Rattle.vm_session.specs.Outcome.{Works}
use Rattle.vm_session.specs.inside.Working.{more, with_reply, Counts, StepsOn, IsUnderWay, tally_text}

-- a reply more, counted early or later
counted : (test : Reply → Bool) (n : ℕ) (reply : Reply) (later : List Reply) → n + reply_count test (reply ∷ later) ≡ more (test reply) n + reply_count test later
counted test n reply later = go (test reply) refl where
  go : (bit : Bool) → test reply ≡ bit → n + reply_count test (reply ∷ later) ≡ more (test reply) n + reply_count test later
  go true e = rw e (omega arith)
  go false e = rw e refl

Counts-more : (tally : Tally) (reply : Reply) (later replies : List Reply) → Counts tally (reply ∷ later) replies → Counts (with_reply tally reply) later replies
Counts-more tally reply later replies counts = record {
  ok = counts.ok ∙ counted is_success tally.ok reply later;
  refused = counts.refused ∙ counted is_refusal tally.refused reply later;
  host = counts.host ∙ counted is_lack tally.host reply later;
}

-- a count that grows by one at most
pub more_most : (bit : Bool) (n most : ℕ) → n ≤ most → more bit n ≤ most + 1
more_most true n most h = omega (arith, h)
more_most false n most h = omega (arith, h)

-- nothing was done yet
pub IsUnderWay-start : (start : Machine) (number count left : ℕ) → left ≡ count → IsUnderWay start number count (record { ok = 0; refused = 0; host = 0 }) start number left
IsUnderWay-start start number count left all = record {
  each = λ later last steps. record {
    replies = later;
    steps = subst (λ (n : ℕ). StepsThrough start (workload number n) later last) all steps;
    counts = record { ok = omega arith; refused = omega arith; host = omega arith };
  };
}

-- one command more was done
pub IsUnderWay-more : (start now mid : Machine) (number count from next left rest : ℕ) (tally after : Tally) (command : Command) (reply : Reply)
    → IsUnderWay start number count tally now from left → left ≡ suc rest → next ≡ number_after from → command ≡ command_for next → after ≡ with_reply tally reply
    → MachineStep now command reply mid → IsUnderWay start number count after mid next rest
unfolding workload
IsUnderWay-more start now mid number count from next left rest tally after command reply under_way one stepped is counts step = record {
  each = λ later last steps.
      let first : MachineStep now (command_for (number_after from)) reply mid = subst (λ (x : Command). MachineStep now x reply mid) (is ∙ ap command_for stepped) step in
      let others : StepsThrough mid (workload (number_after from) rest) later last = subst (λ (x : ℕ). StepsThrough mid (workload x rest) later last) stepped steps in
      let all : StepsThrough now (workload from (suc rest)) (reply ∷ later) last = (mid, reply, later, first, others, refl) in
      let on = under_way.each (reply ∷ later) last (subst (λ (n : ℕ). StepsThrough now (workload from n) (reply ∷ later) last) (sym one) all) in
      record {
        replies = on.replies;
        steps = on.steps;
        counts = subst (λ (t : Tally). Counts t later on.replies) (sym counts) (Counts-more tally reply later on.replies on.counts);
      };
}

-- all commands were done
pub StepsOn-end : (start now : Machine) (number count from left : ℕ) (tally : Tally) → IsUnderWay start number count tally now from left → left ≡ 0 → StepsOn start number count tally [] now
unfolding workload
StepsOn-end start now number count from left tally under_way none = under_way.each [] now (subst (λ (n : ℕ). StepsThrough now (workload from n) [] now) (sym none) (refl, refl))

-- the workload was done from the start, and its line was written, or a part of it
pub Works-told : (Written : List ℕ → Type 0) (frames number count : ℕ) (source : Option (List ℕ)) (line : List ℕ) (tally : Tally) (start last : Machine)
    → start ≡ empty_machine frames → StepsOn start number count tally [] last → IsGoodMachine last
    → line ≡ ok_line (tally_text tally (used last.state.content) (vmos_of last.state.content)) → Written line → Works Written frames number count source source last.state.content
unfolding workload_line
Works-told Written frames number count source line tally start last empty on good told written =
    let ok : reply_count is_success on.replies ≡ tally.ok = omega (arith, on.counts.ok) in
    let refused : reply_count is_refusal on.replies ≡ tally.refused = omega (arith, on.counts.refused) in
    let host : reply_count is_lack on.replies ≡ tally.host = omega (arith, on.counts.host) in
    record {
      read = refl;
      line = line;
      last = last;
      worked = record {
        replies = on.replies;
        steps = subst (λ (m : Machine). StepsThrough m (workload number count) on.replies last) empty on.steps;
        text = rw ok (rw refused (rw host told));
      };
      good = good;
      written = written;
      store = refl;
    }
