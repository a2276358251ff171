use Rattle.std.proofs.Common.{◌∙◌, ◌+◌, ◌++◌, ℕ, take, drop, length, ap, List, arith}
use Rattle.std.proofs.lemmas.List.{take_all}
use Rattle.std.proofs.lemmas.Slice.{put_mid-paste}
use Rattle.vm_base.specs.Pages.{replaced}
use Rattle.source_vm.proofs.page_bytes.patch.Goals as goal

pub returns : goal.returns
unfolding replaced
returns c =
    put_mid-paste c.args.at _ c.args.whole.now _ c.args.bytes.now
    (length c.args.bytes.now) c.copy_from_slice.ensures.after (omega arith) (omega arith)
    ∙ ap (λ (bs : List ℕ). take c.args.at c.args.whole.now ++ bs ++ drop
    (c.args.at + length c.args.bytes.now) c.args.whole.now)
    (take_all (length c.args.bytes.now) c.args.bytes.now (omega arith))
