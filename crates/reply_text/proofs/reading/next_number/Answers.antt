use Rattle.std.proofs.Common.{◌≡◌, ℕ, List, ◌++◌, ◌∙◌, sym, ap, take, drop, arith}
use Rattle.std.specs.List.{position_or_len}
use Rattle.reply_text.specs.Spaces.{is_space, begins_space, spaced_number}
use Rattle.reply_text.proofs.SpaceLaws.{no_number_word, is_number}
use Rattle.reply_text.proofs.reading.next_number.Goals as goal

pub returns-in_default-spelled-clause-number : goal.returns-in_default-spelled-clause-number
returns-in_default-spelled-clause-number c =
    let behind = c.in-Some.behind.now in
    let word : c.split_at.result.0.now ≡ take (position_or_len is_space behind) behind = c.split_at.ensures.front ∙ ap (λ (n : ℕ). take n behind) c.word_len.ensures.len in
    no_number_word c.args.text.now behind c.in-Some.first.now c.in-Some.ensures.cases.0 (λ n h e. c.in_default-spelled.ensures n h (word ∙ e))

pub returns-clause-number : goal.returns-clause-number
returns-clause-number c =
    let behind = c.in-Some.behind.now in
    let number = c.in-Some-spelled.number in
    let word : c.split_at.result.0.now ≡ take (position_or_len is_space behind) behind = c.split_at.ensures.front ∙ ap (λ (n : ℕ). take n behind) c.word_len.ensures.len in
    let more : c.split_at.result.1.now ≡ drop (position_or_len is_space behind) behind = c.split_at.ensures.back ∙ ap (λ (n : ℕ). drop n behind) c.word_len.ensures.len in
    let all = is_number c.args.text.now behind c.in-Some.first.now c.in-Some.ensures.cases.0 number c.if-first-ne32.false (sym word ∙ c.in-Some-spelled.ensures) in
    (all.0 ∙ ap (λ (rest : List ℕ). spaced_number number ++ rest) (sym more), ap begins_space more ∙ all.1, omega (arith, c.if-prove.false))
