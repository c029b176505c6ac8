-- One more word of SplitMix64.
use Rattle.std.proofs.Common.{◌≡◌, ℕ, zero, suc, List, [], ◌∷◌, ◌++◌, length, refl, sym, ap, subst, ◌∙◌, add-one}
use Rattle.std.proofs.lemmas.List.{length_push}
use Rattle.rand_core.specs.Stream.{Stream, next_u64}
use Rattle.rand_core.specs.Steps.{stream_of, first_words}
use Rattle.rand_core.proofs.StepsLemmas.{next_u64-stream_of}
use Rattle.rand_xoshiro.specs.SplitMix64.{mix_u64, next_state, splitmix_steps}
use Rattle.packed_spread.specs.Spreads.{splitmix_words}
use Rattle.packed_spread.specs.Drawn.{IsDrawn, state_after}

-- the word that a state gives
abbrev pub word_at : ℕ → ℕ
word_at state = (mix_u64 state).0

words_more : (n seed : ℕ) → first_words mix_u64 (suc n) seed ≡ first_words mix_u64 n seed ++ word_at (state_after n seed) ∷ []
unfolding first_words
words_more zero seed = refl
words_more (suc n) seed = ap (λ (ws : List ℕ). word_at seed ∷ ws) (words_more n (next_state seed))

state_more : (n seed : ℕ) → state_after (suc n) seed ≡ next_state (state_after n seed)
state_more zero seed = refl
state_more (suc n) seed = state_more n (next_state seed)

pub words_count : (n seed : ℕ) → length (first_words mix_u64 n seed) ≡ n
unfolding first_words
words_count zero seed = refl
words_count (suc n) seed = ap (λ (k : ℕ). suc k) (words_count n (next_state seed))

none_drawn : (seed : ℕ) → IsDrawn seed [] seed
unfolding first_words
none_drawn seed = record { drawn = refl; rest = refl }

pub drawn_none : (seed : ℕ) (words : List ℕ) (generator : ℕ) → words ≡ [] → generator ≡ seed → IsDrawn seed words generator
drawn_none seed words generator none same =
    subst (λ (ws : List ℕ). IsDrawn seed ws generator) (sym none)
    (subst (λ (s : ℕ). IsDrawn seed [] s) (sym same) (none_drawn seed))

pub drawn_more : (seed : ℕ) (words : List ℕ) (s t w : ℕ) → IsDrawn seed words s →
    (w, stream_of splitmix_steps t) ≡ next_u64 (stream_of splitmix_steps s) → IsDrawn seed (words ++ w ∷ []) t
drawn_more seed words s t w before now =
    let n = length words in
    let here = state_after n seed in
    let longer : length (words ++ w ∷ []) ≡ suc n = length_push words w ∙ add-one n in
    let call : (w, stream_of splitmix_steps t) ≡ (word_at here, stream_of splitmix_steps (next_state here)) =
    now ∙ ap (λ (u : Stream). next_u64 u) before.rest ∙ next_u64-stream_of splitmix_steps here in
    record {
      drawn =
          ap (λ (ws : List ℕ). ws ++ w ∷ []) before.drawn
          ∙ ap (λ (x : ℕ). splitmix_words seed n ++ x ∷ []) (ap (λ (p : ℕ × Stream). p.0) call)
          ∙ sym (words_more n seed) ∙ ap (λ (k : ℕ). splitmix_words seed k) (sym longer);
      rest =
          ap (λ (p : ℕ × Stream). p.1) call
          ∙ ap (λ (x : ℕ). stream_of splitmix_steps x) (sym (state_more n seed))
          ∙ ap (λ (k : ℕ). stream_of splitmix_steps (state_after k seed)) (sym longer);
    }
