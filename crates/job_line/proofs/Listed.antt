-- Words that are referred to, and what they write.
use Rattle.std.proofs.Common.{◌≡◌, ℕ, ◌+◌, ◌<◌, List, [], ◌∷◌, ◌++◌, map, length, get_or, take, sym, ap, ◌∙◌, subst, Bor}
use Rattle.std.specs.List.{AllByRecursion}
use Rattle.std.proofs.ByRecursion.{All-get_or, All-push}
use Rattle.std.proofs.lemmas.List.{get_or-map, length-map, map_push, take_more}
use Rattle.fields.specs.Numbers.{Word, number_of}
use Rattle.job_line.specs.CellLines.{word}
use Rattle.job_line.specs.Numbers.{Numbers}
use Rattle.job_line.specs.Words.{texts}

-- what stands past the end
abbrev pub nothing : Bor (List ℕ)
nothing = record { ref_ptr = (0, 0); now = [] }

abbrev pub text_at : List (Bor (List ℕ)) → ℕ → List ℕ
text_at xs i = (get_or xs i nothing).now

pub word_is : (xs : List (Bor (List ℕ))) (i : ℕ) → i < length xs → word (texts xs) i ≡ text_at xs i
word_is xs i h = get_or-map (λ w. w.now) xs i nothing [] h

-- what holds of the text that is referred to holds of the word
pub told : (P : List ℕ → Type 0) (xs : List (Bor (List ℕ))) (i : ℕ) → i < length xs → P (text_at xs i) → P (word (texts xs) i)
told P xs i h p = subst P (sym (word_is xs i h)) p

pub length_texts : (xs : List (Bor (List ℕ))) → length (texts xs) ≡ length xs
length_texts xs = length-map xs (λ w. w.now)

pub numbers_more : (xs : List (Bor (List ℕ))) (i : ℕ) (ns ms : List ℕ) → i < length xs → Numbers (texts (take i xs)) ns → Word (text_at xs i) → ms ≡ ns ++ number_of (text_at xs i) ∷ [] → Numbers (texts (take (i + 1) xs)) ms
numbers_more xs i ns ms h so new more =
    let all = All-push Word (texts (take i xs)) (text_at xs i) so.0 new in
    let grown : texts (take (i + 1) xs) ≡ texts (take i xs) ++ text_at xs i ∷ [] = ap texts (take_more xs i nothing h) ∙ map_push (λ w. w.now) (take i xs) (get_or xs i nothing) in
    let same : ms ≡ map number_of (texts (take i xs) ++ text_at xs i ∷ []) = more ∙ ap (λ (zs : List ℕ). zs ++ number_of (text_at xs i) ∷ []) so.1 ∙ sym (map_push number_of (texts (take i xs)) (text_at xs i)) in
    subst (λ (ws : List (List ℕ)). Numbers ws ms) (sym grown) (all, same)

pub not_all : (xs : List (Bor (List ℕ))) (i : ℕ) → i < length xs → (Word (text_at xs i) → ⊥) → AllByRecursion Word (texts xs) → ⊥
not_all xs i h never all = never (subst Word (word_is xs i h) (All-get_or Word (texts xs) i [] (subst (λ (n : ℕ). i < n) (sym (length_texts xs)) h) all))
