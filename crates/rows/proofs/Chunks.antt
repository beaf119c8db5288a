-- The rows of a table, as its words are cut into chunks of four.
use Rattle.std.proofs.Common.{◌≡◌, ℕ, zero, suc, ◌+◌, ◌*◌, ◌<◌, List, [], get_or, drop, ap, ◌∙◌, add-zero, arith}
use Rattle.std.proofs.lemmas.List.{get_or-take, get_or-drop}
use Rattle.std.specs.Simd.{first_chunks}
use Rattle.rows.specs.Rows.{rows, words_in, words_at}

-- the word j of the chunk i
get_or-first_chunks : (n k i j : ℕ) (words : List ℕ) → i < k → j < n →
    get_or (get_or (first_chunks n k words) i []) j 0 ≡ get_or words (i * n + j) 0
get_or-first_chunks n zero i j words h in_chunk = absurd (omega arith)
get_or-first_chunks n (suc k) zero j words h in_chunk = get_or-take n words j 0 in_chunk ∙ ap (λ m. get_or words m 0) (omega arith)
get_or-first_chunks n (suc k) (suc i) j words h in_chunk =
    get_or-first_chunks n k i j (drop n words) (omega arith) in_chunk
    ∙ get_or-drop n words (i * n + j) 0
    ∙ ap (λ m. get_or words m 0) (omega arith)

-- the words of the chunk p are those of the row p
pub words_in_chunk : (table : List ℕ) (p : ℕ) (row : List ℕ) → p < rows table → row ≡ get_or (first_chunks 4 (rows table) table) p [] →
    words_in row ≡ words_at table p
words_in_chunk table p row h is =
    let word = λ (j : ℕ) (lt : j < 4). ap (λ (l : List ℕ). get_or l j 0) is ∙ get_or-first_chunks 4 (rows table) p j table h lt in
    let kind : get_or row 0 0 ≡ get_or table (p * 4) 0 = word 0 (omega arith) ∙ ap (λ m. get_or table m 0) (add-zero (p * 4)) in
    cc (kind, word 1 (omega arith), word 2 (omega arith), word 3 (omega arith))
