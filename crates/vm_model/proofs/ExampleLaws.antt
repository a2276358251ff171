-- The example script has one outcome where the host has memory, and it has that outcome.
use Rattle.std.proofs.Common.{◌≡◌, ◌≢◌, ℕ, ◌+◌, ◌*◌, ◌/◌, ◌<◌, ◌≤◌, Bool, true, false, not, cond, List, [], ◌∷◌, ◌++◌, get_or, Option, None, Some, refl, sym, ap, subst, ◌∙◌, inl, inr, arith}
use Rattle.std.specs.Prelude.{codes, nat_lt, is_some}
use Rattle.std.specs.List.{AllByRecursion}
use Rattle.std.proofs.lemmas.Bool.{le-ltb, false_from_ne_true}
use Rattle.hex.specs.Hex.{decode_pairs, encode_with}
use Rattle.vm_base.specs.Pages.{rounded, zeros, replaced}
use Rattle.vm_base.specs.declared.limits.TheConstants.{PAGE}
use Rattle.vm_base.specs.declared.refusal.Refusal.{Refusal}
use Rattle.vm_base.specs.declared.refusal.Refusal.TheVariants.{BadHandle, AccessDenied, InvalidArgs, OutOfRange, NoMemory, HostMemory}
use Rattle.vm_model.specs.Contents.Content.{Page, Content, nothing, shown, pages_of, in_use, used, hold, created, IsGood}
use Rattle.vm_model.specs.Contents.Owning.{Owns, need}
use Rattle.vm_model.specs.Contents.Writing.{touched_end, part_at, part_bytes, touched, bytes_in, Piece, pieces, WritesPiece, Writes}
use Rattle.vm_base.specs.Entries.{with_key}
use Rattle.vm_model.specs.declared.names.Target.{Target}
use Rattle.vm_model.specs.Naming.Names.{owner}
use Rattle.vm_model.specs.Machine.State.{State, empty_state, is_open, target_of, koid_of, name_pages, size_of, place_of}
use Rattle.vm_model.specs.Machine.Refusals.{lacks_frames, refusals, first_of}
use Rattle.vm_model.specs.Machine.Step.{with_vmo, Effect}
use Rattle.vm_model.specs.Machine.Machine.{Machine, empty_machine}
use Rattle.vm_model.specs.Machine.MachineStep.{ready_after, MachineEffect, MachineStepAfter, MachineStep}
use Rattle.vm_model.specs.Scripts.Run.{GivesAs, Gives, Run, lines_of}
use Rattle.vm_model.proofs.ContentLaws.{page-hold_here, page-hold_other, bytes_of-none, bytes_of-some, in_use_found, sole-zero, used_none, IsGood-nothing, IsGood-created}
use Rattle.vm_model.proofs.OwningLaws.{Owned-from_Owns, need-row, unowned, unowned_le}
use Rattle.vm_model.proofs.WritingLaws.{Writes-keeps}
use Rattle.vm_model.proofs.NamesLaws.{target_of-same}
use Rattle.vm_model.proofs.MachineLaws.{MachineStep-done}
use Rattle.vm_model.specs.declared.names.Origin.TheVariants.{Created}
use Rattle.vm_model.specs.Machine.Words.{Command, Reply}
use Rattle.vm_model.specs.declared.command.Command.TheVariants.{VmoCreate, VmoRead, VmoWrite}
use Rattle.vm_model.specs.declared.reply.Reply.TheVariants.{Done, Bytes, Refused}
use Rattle.vm_model.specs.Language.Reading.{Reading, Order, reading, words, digits_from, number, vmo, byte_data, command}
use Rattle.vm_model.specs.Language.Text.{reply_lines, text, texts}
use Rattle.vm_model.specs.Scripts.Example.{example_script, example_text}

abbrev create_line : List ℕ
create_line = codes "vmo_create v1 8192"

abbrev write_line : List ℕ
write_line = codes "vmo_write v1 4094 aabb"

abbrev read_line : List ℕ
read_line = codes "vmo_read v1 4093 5"

-- the two bytes that are written
abbrev marks : List ℕ
marks = 170 ∷ 187 ∷ []

abbrev create : Command
create = VmoCreate (record { 0 = 1 }) 8192 false

abbrev write : Command
write = VmoWrite (record { 0 = 1 }) 4094 marks

abbrev read : Command
read = VmoRead (record { 0 = 1 }) 4093 5

pub example_lines : lines_of example_script ≡ create_line ∷ write_line ∷ read_line ∷ []
unfolding lines_of
example_lines = refl

pub create-reading : reading create_line ≡ Order create
unfolding reading words digits_from number vmo byte_data command
create-reading = refl

pub write-reading : reading write_line ≡ Order write
unfolding reading words digits_from number vmo byte_data command decode_pairs
write-reading = refl

pub read-reading : reading read_line ≡ Order read
unfolding reading words digits_from number vmo byte_data command
read-reading = refl

pub example-texts : texts (Done ∷ Done ∷ Bytes (0 ∷ 170 ∷ 187 ∷ 0 ∷ 0 ∷ []) ∷ []) ≡ example_text
unfolding text reply_lines encode_with
example-texts = refl

-- ---- the states

abbrev start : State
start = empty_state 1024

-- the machine before the first line
abbrev begun : Machine
begun = record { state = start; ready = λ root p. None }

-- after the first line
abbrev made : State
made = record start {
  content = created start.content (rounded 8192 / PAGE);
  names = with_key start.names 1 (owner start.content.next true false);
  lineage = with_key start.lineage start.content.next (record { resizable = false; origin = Created; parent = None });
}

made-is : with_vmo start 1 (rounded 8192 / PAGE) false ≡ made
unfolding with_vmo
made-is = refl

-- what its name stands for
abbrev target : Target
target = owner 1 true false

abbrev part : Piece
part = record { koid = 1; page = 0; at = 4094; bytes = marks }

create_free : first_of (refusals start create) ≡ None
unfolding empty_state
create_free = refl

made-target : target_of made 1 ≡ target
unfolding target_of with_key empty_state nothing
made-target = refl

made-pages : pages_of made.content 1 ≡ 2
unfolding pages_of created empty_state nothing with_key
made-pages = refl

made-open : is_open made 1 ≡ true
unfolding with_key empty_state nothing
made-open = refl

made-page : (v p : ℕ) → made.content.page v p ≡ None
unfolding created empty_state nothing
made-page v p = refl

made-good : IsGood made.content
unfolding empty_state
made-good = IsGood-created start.content 2 (IsGood-nothing 1024) (omega arith)

made-used : used made.content ≡ 0
made-used = used_none made.content made-page

made-frames : made.content.frames ≡ 1024
unfolding created empty_state
made-frames = refl

write-touched : touched 4094 2 ≡ 0 ∷ []
unfolding touched touched_end
write-touched = refl

write-pieces : pieces 1 4094 marks ≡ part ∷ []
unfolding pieces part_at part_bytes touched touched_end
write-pieces = refl

made-need : need made.content 1 (touched 4094 2) ≤ 1
made-need =
    let row : need made.content 1 (touched 4094 2) ≡ unowned made.content 1 0 1 = ap (need made.content 1) write-touched ∙ need-row made.content 1 0 1 in
    omega (arith, row, unowned_le made.content 1 0 1)

-- rows none of which refuses
none_of : (a b c : Bool) (x y z : Refusal) → a ≡ false → b ≡ false → c ≡ false → first_of ((a, x) ∷ (b, y) ∷ (c, z) ∷ []) ≡ None
none_of a b c x y z e f g = ap (λ t. cond t (Some x) (first_of ((b, y) ∷ (c, z) ∷ []))) e ∙ (ap (λ t. cond t (Some y) (first_of ((c, z) ∷ []))) f ∙ ap (λ t. cond t (Some z) None) g)

-- the size of a name that stands for the target
size-target : (s : State) → target_of s 1 ≡ target → pages_of s.content 1 ≡ 2 → size_of s 1 ≡ 8192
size-target s e pages = let size : size_of s 1 ≡ pages_of s.content 1 * PAGE = ap (λ (t : Target). name_pages s.content t * PAGE) e in omega (arith, size, pages)

write_free : first_of (refusals made write) ≡ None
write_free =
    let size = size-target made made-target made-pages in
    let inside : nat_lt (size_of made 1) (4094 + 2) ≡ false = le-ltb (size_of made 1) (4094 + 2) (omega (arith, size)) in
    let needed : need made.content (koid_of made 1) (touched (place_of made 1 4094) 2) ≡ need made.content 1 (touched 4094 2) =
    ap (λ (t : Target). need made.content t.koid.0 (touched (t.first * PAGE + 4094) 2)) made-target in
    let room : lacks_frames made 1 (touched (place_of made 1 4094) 2) ≡ false =
    le-ltb made.content.frames (used made.content + need made.content (koid_of made 1) (touched (place_of made 1 4094) 2)) (omega (arith, made-used, needed, made-need, made-frames)) in
    let may : not (target_of made 1).may_write ≡ false = ap (λ (t : Target). not t.may_write) made-target in
    ap (λ b. cond b (Some BadHandle) (first_of ((not (target_of made 1).may_write, AccessDenied) ∷ (nat_lt (size_of made 1) (4094 + 2), OutOfRange) ∷ (lacks_frames made 1 (touched (place_of made 1 4094) 2), NoMemory) ∷ []))) (ap not made-open)
    ∙ none_of (not (target_of made 1).may_write) (nat_lt (size_of made 1) (4094 + 2)) (lacks_frames made 1 (touched (place_of made 1 4094) 2)) AccessDenied OutOfRange NoMemory may inside room

-- the same names, the same targets
target-is : (s : State) → s.names ≡ made.names → target_of s 1 ≡ target
target-is s e = target_of-same s made 1 (ap (λ (f : ℕ → Option Target). f 1) e) ∙ made-target

-- what the VMO shows after the second line
pub record IsWritten (s : State) : Type 0 where
  pub names : s.names ≡ made.names
  pub pages : pages_of s.content 1 ≡ 2
  pub first : shown s.content 1 0 ≡ replaced zeros 4094 marks
  pub second : shown s.content 1 1 ≡ zeros

IsWritten-from_effect : (reply : Reply) (s : State) → Effect made write reply s → IsWritten s
IsWritten-from_effect reply s effect =
    let whole : Writes made.content (pieces 1 4094 marks) s.content = subst (λ (t : Target). Writes made.content (pieces t.koid.0 (t.first * PAGE + 4094) marks) s.content) made-target effect.2 in
    let w : Writes made.content (part ∷ []) s.content = subst (λ (ps : List Piece). Writes made.content ps s.content) write-pieces whole in
    let piece_ : WritesPiece made.content part w.0 = w.1 in
    let below : 0 < pages_of made.content 1 = omega (arith, made-pages) in
    let owned = Owned-from_Owns made.content piece_.owned 1 0 piece_.tag made-good below piece_.owns in
    let was : shown piece_.owned 1 0 ≡ zeros =
    bytes_of-some (piece_.owned.page 1 0) (record { tag = piece_.tag; bytes = shown made.content 1 0 }) owned.held ∙ bytes_of-none (made.content.page 1 0) (made-page 1 0) in
    let page : Page = record { tag = piece_.tag; bytes = replaced (shown piece_.owned 1 0) 4094 marks } in
    let is : s.content ≡ hold piece_.owned 1 0 page = w.2 ∙ piece_.bytes in
    let other : ◌≢◌ {A = ℕ} 1 0 = omega arith in
    let inside : 4094 + 2 ≤ pages_of made.content 1 * PAGE = omega (arith, made-pages) in
    let kept = (Writes-keeps (λ w q. true) 1 4094 marks made.content s.content made-good inside whole).kept in
    record {
      names = ap (λ (t : State). t.names) effect.1;
      pages = kept.pages 1 ∙ made-pages;
      first = ap (λ (c : Content). shown c 1 0) is ∙ (bytes_of-some ((hold piece_.owned 1 0 page).page 1 0) page (page-hold_here piece_.owned 1 0 page) ∙ ap (λ (xs : List ℕ). replaced xs 4094 marks) was);
      second = ap (λ (c : Content). shown c 1 1) is ∙ bytes_of-none ((hold piece_.owned 1 0 page).page 1 1) (page-hold_other piece_.owned 1 0 page 1 1 (λ same. other) ∙ (owned.other_page 1 other ∙ made-page 1 1));
    }

-- the values at the end of the first page and at the front of the second
replaced-values : (get_or (replaced zeros 4094 marks) 4093 0 ≡ 0) × (get_or (replaced zeros 4094 marks) 4094 0 ≡ 170) × (get_or (replaced zeros 4094 marks) 4095 0 ≡ 187) × (get_or zeros 0 0 ≡ 0) × (get_or zeros 1 0 ≡ 0)
unfolding replaced zeros
replaced-values = (refl, refl, refl, refl, refl)

five : (a b c d e a' b' c' d' e' : ℕ) → a ≡ a' → b ≡ b' → c ≡ c' → d ≡ d' → e ≡ e' → a ∷ b ∷ c ∷ d ∷ e ∷ [] ≡ a' ∷ b' ∷ c' ∷ d' ∷ e' ∷ []
five a b c d e a' b' c' d' e' p q r s t = λ i. p i ∷ q i ∷ r i ∷ s i ∷ t i ∷ []

-- what is read then
bytes_read : (c : Content) → shown c 1 0 ≡ replaced zeros 4094 marks → shown c 1 1 ≡ zeros → bytes_in c 1 4093 5 ≡ 0 ∷ 170 ∷ 187 ∷ 0 ∷ 0 ∷ []
unfolding bytes_in
bytes_read c first second = five _ _ _ _ _ 0 170 187 0 0
    (ap (λ (xs : List ℕ). get_or xs 4093 0) first ∙ replaced-values.0)
    (ap (λ (xs : List ℕ). get_or xs 4094 0) first ∙ replaced-values.1)
    (ap (λ (xs : List ℕ). get_or xs 4095 0) first ∙ replaced-values.2)
    (ap (λ (xs : List ℕ). get_or xs 0 0) second ∙ replaced-values.3)
    (ap (λ (xs : List ℕ). get_or xs 1 0) second ∙ replaced-values.4)

-- what the name shows then
read_at : (s : State) → IsWritten s → bytes_in s.content (koid_of s 1) (place_of s 1 4093) 5 ≡ 0 ∷ 170 ∷ 187 ∷ 0 ∷ 0 ∷ []
read_at s w = ap (λ (t : Target). bytes_in s.content t.koid.0 (t.first * PAGE + 4093) 5) (target-is s w.names) ∙ bytes_read s.content w.first w.second

-- nothing refuses the third line
read_free : (s : State) → IsWritten s → first_of (refusals s read) ≡ None
read_free s w =
    let named : is_open s 1 ≡ true = ap (λ (f : ℕ → Option Target). is_some (f 1)) w.names ∙ made-open in
    let size = size-target s (target-is s w.names) w.pages in
    let inside : nat_lt (size_of s 1) (4093 + 5) ≡ false = le-ltb (size_of s 1) (4093 + 5) (omega (arith, size)) in
    none_of (not (is_open s 1)) (nat_lt PAGE 5) (nat_lt (size_of s 1) (4093 + 5)) BadHandle InvalidArgs OutOfRange (ap not named) refl inside

-- ---- steps

-- a step that nothing refuses, and for which the host had memory, has the command's effect
effect_of_step : (old : Machine) (command : Command) (reply : Reply) (new : Machine) → first_of (refusals old.state command) ≡ None → MachineStep old command reply new → reply ≢ Refused HostMemory → MachineEffect old command reply new
effect_of_step old command reply new none step granted = go (subst (λ (o : Option Refusal). MachineStepAfter o old command reply new) none step.outcome) where
  go : MachineStepAfter None old command reply new → MachineEffect old command reply new
  go (inl effect) = effect
  go (inr lacked) = absurd (granted lacked.0.answer)

order_given : (line : List ℕ) (command : Command) (old : Machine) (now : List Reply) (new : Machine) → reading line ≡ Order command → Gives line old now new → (reply : Reply) × (now ≡ reply ∷ []) × MachineStep old command reply new
order_given line command old now new e gives = subst (λ (r : Reading). GivesAs r old now new) e gives.answer

give_order : (line : List ℕ) (command : Command) (old : Machine) (reply : Reply) (new : Machine) → reading line ≡ Order command → MachineStep old command reply new → Gives line old (reply ∷ []) new
give_order line command old reply new e step = record { answer = subst (λ (r : Reading). GivesAs r old (reply ∷ []) new) (sym e) (reply, refl, step) }

-- ---- the outcome

pub example_only : (replies : List Reply) (last : Machine) → Run (empty_machine 1024) (lines_of example_script) replies last → AllByRecursion (λ r. r ≢ Refused HostMemory) replies → texts replies ≡ example_text
unfolding empty_machine
example_only replies last whole granted =
    let run : Run begun (create_line ∷ write_line ∷ read_line ∷ []) replies last = subst (λ (lines : List (List ℕ)). Run begun lines replies last) example_lines whole in
    let first = order_given create_line create begun run.1 run.0 create-reading run.3 in
    let second_run = run.4 in
    let second = order_given write_line write run.0 second_run.1 second_run.0 write-reading second_run.3 in
    let third_run = second_run.4 in
    let third = order_given read_line read second_run.0 third_run.1 third_run.0 read-reading third_run.3 in
    let rest : third_run.2 ≡ [] = third_run.4.0 in
    let all : replies ≡ first.0 ∷ second.0 ∷ third.0 ∷ [] =
    run.5 ∙ (ap (λ (xs : List Reply). xs ++ run.2) first.1
    ∙ ap (λ (xs : List Reply). first.0 ∷ xs) (second_run.5 ∙ (ap (λ (xs : List Reply). xs ++ second_run.2) second.1
    ∙ ap (λ (xs : List Reply). second.0 ∷ xs) (third_run.5 ∙ (ap (λ (xs : List Reply). xs ++ third_run.2) third.1
    ∙ ap (λ (xs : List Reply). third.0 ∷ xs) rest))))) in
    let each : AllByRecursion (λ r. r ≢ Refused HostMemory) (first.0 ∷ second.0 ∷ third.0 ∷ []) = subst (AllByRecursion (λ r. r ≢ Refused HostMemory)) all granted in
    let one = effect_of_step begun create first.0 run.0 create_free first.2 each.0 in
    let is_made : run.0.state ≡ made = one.0.1 ∙ made-is in
    let free = subst (λ (s : State). first_of (refusals s write) ≡ None) (sym is_made) write_free in
    let two = effect_of_step run.0 write second.0 second_run.0 free second.2 each.1.0 in
    let from_made : Effect made write second.0 second_run.0.state = subst (λ (s : State). Effect s write second.0 second_run.0.state) is_made two.0 in
    let written = IsWritten-from_effect second.0 second_run.0.state from_made in
    let three = effect_of_step second_run.0 read third.0 third_run.0 (read_free second_run.0.state written) third.2 each.1.1.0 in
    let bytes : third.0 ≡ Bytes (0 ∷ 170 ∷ 187 ∷ 0 ∷ 0 ∷ []) =
    three.0.0 ∙ ap (λ (xs : List ℕ). Bytes xs) (read_at second_run.0.state written) in
    ap texts (all ∙ (λ i. one.0.0 i ∷ from_made.0 i ∷ bytes i ∷ [])) ∙ example-texts

-- ---- there is such a run

free_tag : in_use made.content 0 ≡ false
free_tag = false_from_ne_true (in_use made.content 0) (λ e.
    let page = in_use_found made.content 0 e in
    let none : ◌≡◌ {A = Option Page} None (Some page.2) = sym (made-page page.0 page.1) ∙ page.5 in absurd cc)

abbrev owned : Content
owned = hold made.content 1 0 (record { tag = 0; bytes = shown made.content 1 0 })

abbrev written : State
written = record made { content = hold owned 1 0 (record { tag = 0; bytes = replaced (shown owned 1 0) 4094 marks }) }

write_effect : Effect made write Done written
write_effect =
    let owns : Owns made.content owned 1 0 0 = record {
      stays = λ alone. let none : ◌≡◌ {A = Bool} true false = sym alone ∙ sole-zero made.content 1 0 (made-page 1 0) in absurd cc;
      copies = λ shared. (omega (arith, made-frames), free_tag, refl);
    } in
    let w : Writes made.content (part ∷ []) written.content = (written.content, record { tag = 0; owned = owned; owns = owns; bytes = refl }, refl) in
    let whole : Writes made.content (pieces 1 4094 marks) written.content = subst (λ (ps : List Piece). Writes made.content ps written.content) (sym write-pieces) w in
    (refl, refl, subst (λ (t : Target). Writes made.content (pieces t.koid.0 (t.first * PAGE + 4094) marks) written.content) (sym made-target) whole)

abbrev read_reply : Reply
read_reply = Bytes (bytes_in written.content (koid_of written 1) (place_of written 1 4093) 5)

abbrev outcome : List Reply
outcome = Done ∷ Done ∷ read_reply ∷ []

-- the machines after the lines: their states, and what is ready then
abbrev after_create : Machine
after_create = record { state = made; ready = ready_after begun create Done made }

abbrev after_write : Machine
after_write = record { state = written; ready = ready_after after_create write Done written }

abbrev after_read : Machine
after_read = record { state = written; ready = ready_after after_write read read_reply written }

outcome_run : Run begun (create_line ∷ write_line ∷ read_line ∷ []) outcome after_read
outcome_run =
    let is = IsWritten-from_effect Done written write_effect in (
      after_create,
      Done ∷ [],
      Done ∷ read_reply ∷ [],
      give_order create_line create begun Done after_create create-reading (MachineStep-done begun create Done after_create create_free ((refl, sym made-is), refl)),
      (
        after_write,
        Done ∷ [],
        read_reply ∷ [],
        give_order write_line write after_create Done after_write write-reading (MachineStep-done after_create write Done after_write write_free (write_effect, refl)),
        (
          after_read,
          read_reply ∷ [],
          [],
          give_order read_line read after_write read_reply after_read read-reading (MachineStep-done after_write read read_reply after_read (read_free written is) ((refl, refl), refl)),
          (refl, refl),
          refl,
        ),
        refl,
      ),
      refl,
    )

pub example_exists : (replies : List Reply) × (last : Machine) × Run (empty_machine 1024) (lines_of example_script) replies last × AllByRecursion (λ r. r ≢ Refused HostMemory) replies × (texts replies ≡ example_text)
unfolding empty_machine
example_exists =
    let is = IsWritten-from_effect Done written write_effect in
    let bytes = read_at written is in (
      outcome,
      after_read,
      subst (λ (lines : List (List ℕ)). Run begun lines outcome after_read) (sym example_lines) outcome_run,
      ((λ e. absurd cc), ((λ e. absurd cc), ((λ e. absurd cc), tt))),
      ap (λ (xs : List ℕ). texts (Done ∷ Done ∷ Bytes xs ∷ [])) bytes ∙ example-texts,
    )
