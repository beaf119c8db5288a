-- A piece of a text that is cut after each line feed is the text's first line.
use Rattle.std.proofs.Common.{◌≡◌, ◌≢◌, ℕ, Bool, true, false, ◌+◌, ◌-◌, ◌<◌, ◌≤◌, min, inl, inr, List, [], ◌∷◌, ◌++◌, length, get_or, take, drop, Option, Some, None, sym, subst, arith}
use Rattle.std.proofs.lemmas.Fn.{always_returns_same}
use Rattle.std.specs.Fn.{Mut, Called, ComputesKey}
use Rattle.std.proofs.lemmas.Grind.{common_steps}
use Rattle.std.proofs.lemmas.List.{take-append-drop, append_assoc}
use Rattle.std.proofs.Math.Seq.{take-append_seam, take-length}
use Rattle.std.proofs.Math.Dec.{eqb}
use Rattle.std.specs.Prelude.{◌==◌, MatchOption}
use Rattle.std.specs.Borrow.{Bor}
use Rattle.std.specs.Option.{unwrap_or}
use Rattle.std.specs.List.{IsFirstMatchOrLen}
use Rattle.std.specs.Cmp.Lexicographic.{pointwise, same_text, other_text}
use Rattle.std.proofs.lemmas.Bool.{eqb-true, eq-eqb}
use Rattle.job_line.specs.Splits.{Lacks, Parted}
use Rattle.job_line.proofs.Parting.{lacks_before}
use Rattle.job.specs.FirstLines.{FirstLine}

-- whether the last byte is a line feed, as `strip_suffix` tells it
abbrev LastIsFeed : List ℕ → Bool → Type 0
LastIsFeed piece is = pointwise eqb (drop (length piece - 1) piece) (10 ∷ []) ≡ is

-- what `strip_suffix` of a line feed gives of the piece
abbrev Stripped : List ℕ → Option (Bor (List ℕ)) → Type 0
Stripped piece cut =
    MatchOption cut (LastIsFeed piece false)
    (λ x. LastIsFeed piece true × (x.now ≡ take (length piece - 1) piece) × (length x.now + 1 ≡ length piece))

-- the line feed stands at the piece's end
feed_ends : (text piece line rest : List ℕ) (i : ℕ) → text ≡ piece ++ rest → length piece ≤ i + 1 →
    ((k : ℕ) → k < i → get_or text k 0 ≢ 10) → piece ≡ line ++ 10 ∷ [] → Parted 10 text line rest
feed_ends text piece line rest i whole ends others cut =
    let parts : text ≡ line ++ 10 ∷ rest = grind (arith, common_steps, append_assoc) in
    let before : Lacks 10 (take (length line) text) = lacks_before text (length line) 10 (grind (arith, common_steps)) (λ k h. others k (grind (arith, common_steps))) in
    let same : take (length line) text ≡ line = grind (arith, common_steps, take-append_seam) in
    record { whole = parts; first = subst (λ t. Lacks 10 t) same before }

-- the text ends before a line feed
text_ends : (text piece rest : List ℕ) (i : ℕ) → text ≡ piece ++ rest → length piece ≡ min (i + 1) (length text) →
    ((k : ℕ) → k < i → get_or text k 0 ≢ 10) → (i < length text → get_or text i 0 ≡ 10) → 0 < length text →
    drop (length piece - 1) piece ≢ 10 ∷ [] → Lacks 10 text × (piece ≡ text) × (rest ≡ [])
text_ends text piece rest i whole ends others feed some uncut =
    let last : drop (length piece - 1) piece ≡ get_or text (length piece - 1) 0 ∷ [] = grind (arith, common_steps) in
    let past : length text ≤ i = grind (arith, common_steps) in
    let all : Lacks 10 (take (length text) text) = lacks_before text (length text) 10 (omega arith) (λ k h. others k (omega (arith, h, past))) in
    (subst (λ t. Lacks 10 t) (take-length text) all, grind (arith, common_steps), grind (arith, common_steps))

-- the piece, without the line feed that may end it, is the first line
line_of : (text rest : List ℕ) (piece : Bor (List ℕ)) (cut : Option (Bor (List ℕ))) (i : ℕ) →
    text ≡ piece.now ++ rest → length piece.now ≡ min (i + 1) (length text) → IsFirstMatchOrLen (λ b. b == 10) text i →
    0 < length text → Stripped piece.now cut → FirstLine text (unwrap_or cut piece).now rest
line_of text rest piece None i whole ends found some uncut =
    let others : (k : ℕ) → k < i → get_or text k 0 ≢ 10 = λ k h e. grind (arith, found.0 k 0 (omega arith) h, eq-eqb _ _ e) in
    inr (text_ends text piece.now rest i whole ends others (λ h. eqb-true _ _ (found.1 h 0)) some (other_text _ _ (sym uncut)))
line_of text rest piece (Some line) i whole ends found some cut =
    let others : (k : ℕ) → k < i → get_or text k 0 ≢ 10 = λ k h e. grind (arith, found.0 k 0 (omega arith) h, eq-eqb _ _ e) in
    let tail : drop (length piece.now - 1) piece.now ≡ 10 ∷ [] = same_text _ _ (sym cut.0) in
    inl (feed_ends text piece.now line.now rest i whole (grind (arith, common_steps)) others (grind (arith, common_steps, take-append-drop)))

-- so each step of `split_inclusive` gives the first line, where the closure asks for a line feed
pub first_of : {F : Type 0} {g : Mut F (Bor ℕ × Unit {0}) Bool} {f f' : F} {text rest : List ℕ} {line : Bor (List ℕ)}
    (piece : Bor (List ℕ)) (cut : Option (Bor (List ℕ))) →
    (text ≡ piece.now ++ rest)
    × ((i : ℕ) × (length piece.now ≡ min (i + 1) (length text))
    × ((p : ℕ → Bool) → ComputesKey g p f → ComputesKey g p f' × IsFirstMatchOrLen p text i))
    × (0 < length text) →
    Stripped piece.now cut → line ≡ unwrap_or cut piece →
    ((a : Bor ℕ × Unit {0}) (r : Bool) (q : F) → Called g f a r q → (r ≡ (a.0.now == 10)) × (q ≡ f)) →
    FirstLine text line.now rest
first_of {F} {g} {f} {f'} {text} {rest} {line} piece cut step told is asks =
    let found = (step.1.2 (λ b. b == 10) (always_returns_same g (λ a r. r ≡ (a.0.now == 10)) f asks)).1 in
    subst (λ (l : Bor (List ℕ)). FirstLine text l.now rest) (sym is) (line_of text rest piece cut step.1.0 step.0 step.1.1 found step.2 told)
