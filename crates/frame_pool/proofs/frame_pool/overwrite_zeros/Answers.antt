use Rattle.std.proofs.Common.{◌∙◌, sym, arith}
use Rattle.frame_pool.proofs.ShownLaws.{replaced-whole}
use Rattle.frame_pool.proofs.frame_pool.overwrite_zeros.Goals as goal

pub returns-then-bytes-eq-PAGE_BYTES : goal.returns-then-bytes-eq-PAGE_BYTES
returns-then-bytes-eq-PAGE_BYTES c = c.copy_from_slice.ensures.after
    ∙ sym (replaced-whole c.args.at c.args.bytes.now c.requires (omega arith))
