-- What a line of a job says.
use Rattle.std.specs.Prelude.{◌≡◌, ℕ, List, [], ◌∷◌, length, vec_items, codes, ◌≢◌}
use Rattle.fields.specs.Numbers.{Word, number_of}
use Rattle.job_line.specs.declared.line.JobLine.{JobLine}
use Rattle.job_line.specs.declared.line.Keyword.{Keyword}
use Rattle.job_line.specs.declared.wrong.Wrong.{Wrong}
use Rattle.job_line.specs.declared.wrong.Wrong.TheVariants.{UnknownWord, NotWord}
use Rattle.job_line.specs.BoardLines.{SaysBoard, RefusesBoard}
use Rattle.job_line.specs.CellLines.{word, SaysCell, RefusesCellLine}
use Rattle.job_line.specs.Numbers.{Numbers, RefusesNumbers}
use Rattle.job_line.specs.Words.{LineWords, RefusesWords, Miscounted}

-- one number
pub record SaysLimit (ws : List (List ℕ)) (n : ℕ) : Type 0 where
  pub one : length ws ≡ 1
  pub number : Word (word ws 0) × (n ≡ number_of (word ws 0))

pub data RefusesLimit (ws : List (List ℕ)) : Wrong → Type 0 where
  miscounted : {e : Wrong} → Miscounted (length ws) 1 e → RefusesLimit ws e
  no_number : (Word (word ws 0) → ⊥) → RefusesLimit ws NotWord

abbrev pub keyword_of : Keyword → List ℕ
keyword_of Keyword.Limit = codes "limit"
keyword_of Keyword.Table = codes "table"
keyword_of Keyword.Cell = codes "cell"
keyword_of Keyword.Board = codes "board"

-- no line begins with that word
pub record Unheaded (w : List ℕ) (e : Wrong) : Type 0 where
  pub told : e ≡ UnknownWord
  pub none : (k : Keyword) → w ≢ keyword_of k

-- what the words after a keyword say, on the line of that number
abbrev pub SaysAfter : ℕ → Keyword → List (List ℕ) → JobLine → Type 0
SaysAfter line k ws JobLine.Nothing = ⊥
SaysAfter line k ws (JobLine.Limit n) = (k ≡ Keyword.Limit) × SaysLimit ws n
SaysAfter line k ws (JobLine.Table v) = (k ≡ Keyword.Table) × Numbers ws (vec_items v)
SaysAfter line k ws (JobLine.Cell l c) = (k ≡ Keyword.Cell) × SaysCell ws l c
SaysAfter line k ws (JobLine.Board b) = (k ≡ Keyword.Board) × SaysBoard ws line b

abbrev pub RefusesAfter : Keyword → List (List ℕ) → Wrong → Type 0
RefusesAfter Keyword.Limit ws e = RefusesLimit ws e
RefusesAfter Keyword.Table ws e = RefusesNumbers ws e
RefusesAfter Keyword.Cell ws e = RefusesCellLine ws e
RefusesAfter Keyword.Board ws e = RefusesBoard ws e

-- no words say nothing; of others the first is a keyword
pub data Says (line : ℕ) : List (List ℕ) → JobLine → Type 0 where
  nothing : Says line [] JobLine.Nothing
  headed : {ws : List (List ℕ)} {j : JobLine} (w : List ℕ) (k : Keyword) → w ≡ keyword_of k → SaysAfter line k ws j → Says line (w ∷ ws) j

pub data Refuses : List (List ℕ) → Wrong → Type 0 where
  unheaded : {w : List ℕ} {ws : List (List ℕ)} {e : Wrong} → Unheaded w e → Refuses (w ∷ ws) e
  after : {ws : List (List ℕ)} {e : Wrong} (w : List ℕ) (k : Keyword) → w ≡ keyword_of k → RefusesAfter k ws e → Refuses (w ∷ ws) e

-- what the line's words say
pub record SaysLine (line : ℕ) (bytes : List ℕ) (j : JobLine) : Type 0 where
  pub words : List (List ℕ)
  pub read : LineWords bytes words
  pub said : Says line words j

pub data RefusesLine (bytes : List ℕ) : Wrong → Type 0 where
  no_words : {e : Wrong} → RefusesWords bytes e → RefusesLine bytes e
  not_said : {e : Wrong} (ws : List (List ℕ)) → LineWords bytes ws → Refuses ws e → RefusesLine bytes e
