-- Where the numbers of a row stand in the text of a file. Before a cost: the rows before, a line end and the row's name; behind it
-- the rest.
--   before_cost cols es kind    == the text up to the cost of the row behind the rows es, which is of this kind
--   behind_cost p last fs       == the text behind that cost, of a row with this period and last field, and the rows fs
use mathlib.Core.List.{List, [], ◌∷◌, ◌++◌, append_assoc}
use mathlib.Core.Path.{◌≡◌, refl, sym, ap, ◌∙◌}
use Prim.Native.Nat.{ℕ}
use Rattle.demand.specs.declared.table.Kind.{Kind}
use Rattle.layout.specs.File.{Entry, entry, header_of, name_of, last_text, entry_text, body, file_text}
use Rattle.layout.specs.Inside.Steps.{up_to}
use Rattle.layout.specs.declared.steps.Last.{Last}
use Rattle.layout.specs.declared.steps.Last.TheVariants.{Number}
use Rattle.layout.specs.declared.steps.Place.TheVariants.{Cost, Period, Deadline}
use Rattle.layout.specs.declared.words.Columns.{Columns}
use Rattle.text.specs.Ascii.{crlf}
use Rattle.text.specs.Numbers.{decimal, comma, field}

abbrev pub before_cost : Columns → List Entry → Kind → List ℕ
before_cost cols es kind = file_text cols es ++ (crlf ++ up_to (Cost kind))

abbrev pub behind_cost : ℕ → Last → List Entry → List ℕ
behind_cost p last fs = field p ++ (last_text last ++ body fs)

body-append : (es fs : List Entry) → body (es ++ fs) ≡ body es ++ body fs
body-append [] fs = refl
body-append (e ∷ es) fs = simp (body-append es fs, append_assoc)

pub file-text-append : (cols : Columns) (es fs : List Entry) → file_text cols (es ++ fs) ≡ file_text cols es ++ body fs
file-text-append cols es fs =
    ap (λ (z : List ℕ). header_of cols ++ z) (body-append es fs) ∙ sym (append_assoc (header_of cols) (body es) (body fs))

-- A row as far as its period, and as far as its deadline.
pub up-to-period : (kind : Kind) (c v : ℕ) → up_to (Period kind c) ++ decimal v ≡ name_of kind ++ (field c ++ field v)
up-to-period kind c v =
    append_assoc (name_of kind) (field c ++ (comma ∷ [])) (decimal v)
    ∙ ap (λ (z : List ℕ). name_of kind ++ z) (append_assoc (field c) (comma ∷ []) (decimal v))

pub up-to-deadline : (kind : Kind) (c p v : ℕ) → up_to (Deadline kind c p) ++ decimal v ≡ entry_text (entry kind c p (Number v))
up-to-deadline kind c p v =
    append_assoc (name_of kind) (field c ++ (field p ++ (comma ∷ []))) (decimal v)
    ∙ ap (λ (z : List ℕ). name_of kind ++ z) (append_assoc (field c) (field p ++ (comma ∷ [])) (decimal v))
    ∙ ap (λ (z : List ℕ). name_of kind ++ (field c ++ z)) (append_assoc (field p) (comma ∷ []) (decimal v))

-- A row up to its cost, the cost, and the rest of the file.
row-splits : (kind : Kind) (c p : ℕ) (last : Last) (fs : List Entry) →
    entry_text (entry kind c p last) ++ body fs ≡ up_to (Cost kind) ++ (decimal c ++ behind_cost p last fs)
row-splits kind c p last fs =
    append_assoc (name_of kind) (field c ++ (field p ++ last_text last)) (body fs)
    ∙ ap (λ (z : List ℕ). name_of kind ++ z) (append_assoc (field c) (field p ++ last_text last) (body fs))
    ∙ ap (λ (z : List ℕ). name_of kind ++ (field c ++ z)) (append_assoc (field p) (last_text last) (body fs))
    ∙ sym (append_assoc (name_of kind) (comma ∷ []) (decimal c ++ behind_cost p last fs))

pub cost-stands : (cols : Columns) (es fs : List Entry) (kind : Kind) (c p : ℕ) (last : Last) →
    file_text cols (es ++ (entry kind c p last ∷ fs)) ≡ before_cost cols es kind ++ (decimal c ++ behind_cost p last fs)
cost-stands cols es fs kind c p last =
    file-text-append cols es (entry kind c p last ∷ fs)
    ∙ ap (λ (z : List ℕ). file_text cols es ++ (crlf ++ z)) (row-splits kind c p last fs)
    ∙ sym (append_assoc (file_text cols es) (crlf ++ up_to (Cost kind)) (decimal c ++ behind_cost p last fs))
