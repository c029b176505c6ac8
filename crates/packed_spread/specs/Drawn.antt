-- Random words from SplitMix64.
use Rattle.std.specs.Prelude.{◌≡◌, ℕ, zero, suc, List, length}
use Rattle.rand_core.specs.Steps.{stream_of}
use Rattle.rand_xoshiro.specs.SplitMix64.{next_state, splitmix_steps}
use Rattle.packed_spread.specs.Spreads.{splitmix_words}

-- the state of the generator after `count` words
abbrev pub state_after : ℕ → ℕ → ℕ
state_after zero state = state
state_after (suc count) state = state_after count (next_state state)

-- the words are the first ones from the seed, and the generator continues after them
pub record IsDrawn (seed : ℕ) (words : List ℕ) (generator : ℕ) : Type 0 where
  pub drawn : words ≡ splitmix_words seed (length words)
  pub rest : stream_of splitmix_steps generator ≡ stream_of splitmix_steps (state_after (length words) seed)
