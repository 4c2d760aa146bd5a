-- A table file with the cost of one task changed (02, M-112): "the bytes of the other rows are kept".
--   recost es i c            == the rows es with cost c for task i
--   tasks_in es               == how many of them are tasks
--   cost_in es i              == the present cost of task i
--   Rewritten bs es i c out  out is the file bs, which says the rows es, with cost c for task i: under the same header, with or without its
--                            last CRLF as before
--   Kept bs out old new      out is bs with the digits of one number replaced, and every byte before and behind them kept
--   BytesKept                a rewritten file is that
--   ReadBack                 and it says the rows with that one cost changed
--   TableChanged             whose table is the old one with that one number changed
use Rattle.std.specs.Prelude.{List, [], ◌∷◌, ◌++◌, ◌⊎◌, ◌≡◌, ℕ, zero, suc, ◌*◌, ◌<◌, ◌≤◌, length, get_or, set}
use Rattle.demand.specs.Rows.{tasks_of, width}
use Rattle.demand.specs.declared.table.Kind.TheVariants.{Task, Handler}
use Rattle.layout.specs.File.{Entry, entry, AllLawful, file_text, FileSays}
use Rattle.layout.specs.Table.{list_of, misplaced}
use Rattle.layout.specs.declared.words.Columns.{Columns}
use Rattle.text.specs.Ascii.{crlf}
use Rattle.text.specs.Numbers.{decimal}

unfoldable pub recost : List Entry → ℕ → ℕ → List Entry
recost [] i c = []
recost (entry Task x p last ∷ es) zero c = entry Task c p last ∷ es
recost (entry Task x p last ∷ es) (suc i) c = entry Task x p last ∷ recost es i c
recost (entry Handler x p last ∷ es) i c = entry Handler x p last ∷ recost es i c

unfoldable pub cost_in : List Entry → ℕ → ℕ
cost_in [] i = 0
cost_in (entry Task x p last ∷ es) zero = x
cost_in (entry Task x p last ∷ es) (suc i) = cost_in es i
cost_in (entry Handler x p last ∷ es) i = cost_in es i

unfoldable pub tasks_in : List Entry → ℕ
tasks_in [] = 0
tasks_in (entry Task x p last ∷ es) = suc (tasks_in es)
tasks_in (entry Handler x p last ∷ es) = tasks_in es

pub record Rewritten (bs : List ℕ) (es : List Entry) (i c : ℕ) (out : List ℕ) : Type 0 where
  pub cols : Columns
  pub end : List ℕ
  pub ends : (end ≡ []) ⊎ (end ≡ crlf)
  pub lawful : AllLawful cols es
  pub was : bs ≡ file_text cols es ++ end
  pub is : out ≡ file_text cols (recost es i c) ++ end

pub record Kept (bs out : List ℕ) (old new : ℕ) : Type 0 where
  pub before : List ℕ
  pub behind : List ℕ
  pub was : bs ≡ before ++ (decimal old ++ behind)
  pub is : out ≡ before ++ (decimal new ++ behind)

abbrev pub BytesKept : Type 0
BytesKept = (bs out : List ℕ) (es : List Entry) (i c : ℕ) → i < tasks_in es → Rewritten bs es i c out → Kept bs out (cost_in es i) c

-- a cost that is no greater has no more digits, so that the file is small enough
abbrev pub ReadBack : Type 0
ReadBack =
    (bs out : List ℕ) (es : List Entry) (i c : ℕ)
    → i < tasks_in es → c ≤ cost_in es i → FileSays bs es → Rewritten bs es i c out → FileSays out (recost es i c)

-- task i has its cost at the first of its numbers
pub record Changed (es : List Entry) (i c : ℕ) : Type 0 where
  pub present : cost_in es i ≡ get_or (list_of Task es) (width Task * i) 0
  pub tasks : list_of Task (recost es i c) ≡ set (list_of Task es) (width Task * i) c
  pub handlers : list_of Handler (recost es i c) ≡ list_of Handler es
  pub misplaced : misplaced (recost es i c) ≡ misplaced es

pub record TableChanged : Type 0 where
  pub many : (es : List Entry) → tasks_in es ≡ length (tasks_of (list_of Task es))
  pub changed : (es : List Entry) (i c : ℕ) → Changed es i c
