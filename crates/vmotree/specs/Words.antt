-- The words of the command line.
use Rattle.std.specs.Prelude.{ℕ, Bool, true, false, List, [], ◌∷◌, map, codes, if◌then◌else◌, Option, None, Some, option_map}
use Rattle.std.specs.String.{string_bytes}
use Rattle.std.specs.declared.string.String.{String}
use Rattle.std.specs.declared.alloc.Global.{Global}
use Rattle.vm_base.specs.declared.limits.TheConstants.{DEFAULT_FRAMES}
use Rattle.vm_model.specs.Language.Reading.{◌>>=◌}
use Rattle.line_server.specs.Words.{is_text, frames_of_word}
use Rattle.tree_text.specs.declared.lines.Form.{Form}
use Rattle.tree_text.specs.declared.lines.Form.TheVariants as form
use Rattle.vmotree.specs.declared.request.Request.{Request}
use Rattle.vmotree.specs.declared.request.Wanted.{Wanted}
use Rattle.vmotree.specs.declared.request.Wanted.TheVariants as wanted

-- what no words ask for
abbrev pub first_request : Request
first_request = record { frames = DEFAULT_FRAMES; form = form.Drawing; replies = false; wanted = wanted.Flag }

-- a word that is a flag of its own, or wants a value behind it
abbrev pub with_flag : Request → List ℕ → Option Request
with_flag r word =
    if is_text word (codes "--text") then Some (record r { form = form.Drawing })
    else if is_text word (codes "--dot") then Some (record r { form = form.Graph })
    else if is_text word (codes "--replies") then Some (record r { replies = true })
    else if is_text word (codes "--frames") then Some (record r { wanted = wanted.Frames })
    else None

abbrev pub with_word : Request → Wanted → List ℕ → Option Request
with_word r wanted.Flag word = with_flag r word
with_word r wanted.Frames word = option_map (λ (n : ℕ). record r { frames = n; wanted = wanted.Flag }) (frames_of_word word)

abbrev pub with_all_words : Request → List (List ℕ) → Option Request
with_all_words r [] = Some r
with_all_words r (word ∷ words) = do
  next ← with_word r r.wanted word
  with_all_words next words

-- a request in which no value is wanted any more, and no replies beside a graph
abbrev pub if_complete : Request → Wanted → Form → (replies : Bool) → Option Request
if_complete r wanted.Frames form replies = None
if_complete r wanted.Flag form.Graph true = None
if_complete r wanted.Flag form.Graph false = Some r
if_complete r wanted.Flag form.Drawing replies = Some r

abbrev pub complete : Request → Option Request
complete r = if_complete r r.wanted r.form r.replies

-- what the words ask for. None if they are outside the grammar
abbrev pub request_in : List (String Global) → Option Request
request_in words = with_all_words first_request (map string_bytes words) >>= complete
