-- Samples of phantoms: of one to four samples on each axis, with seeds from the least to the greatest.
-- The values were computed outside the repository, by programs written from the rules alone.
use Rattle.std.specs.Prelude.{◌≡◌, [], ◌∷◌, refl, pos}
use Rattle.phantom.specs.Phantom.{phantom_samples}

pub one_sample_of_seed_7 : phantom_samples 1 7 ≡ pos 248 ∷ []
unfolding phantom_samples
one_sample_of_seed_7 = refl

pub one_sample_of_seed_0 : phantom_samples 1 0 ≡ pos 254 ∷ []
unfolding phantom_samples
one_sample_of_seed_0 = refl

pub two_on_each_axis :
    phantom_samples 2 7
    ≡ pos 104 ∷ pos 96
    ∷ pos 97 ∷ pos 107
    ∷ pos 107 ∷ pos 109
    ∷ pos 105 ∷ pos 106
    ∷ []
unfolding phantom_samples
two_on_each_axis = refl

pub three_on_each_axis_of_the_greatest_seed :
    phantom_samples 3 18446744073709551615
    ≡ pos 67 ∷ pos 126 ∷ pos 70
    ∷ pos 131 ∷ pos 181 ∷ pos 128
    ∷ pos 69 ∷ pos 127 ∷ pos 76
    ∷ pos 126 ∷ pos 188 ∷ pos 134
    ∷ pos 191 ∷ pos 241 ∷ pos 187
    ∷ pos 127 ∷ pos 187 ∷ pos 131
    ∷ pos 66 ∷ pos 128 ∷ pos 70
    ∷ pos 129 ∷ pos 193 ∷ pos 125
    ∷ pos 69 ∷ pos 136 ∷ pos 66
    ∷ []
unfolding phantom_samples
three_on_each_axis_of_the_greatest_seed = refl

pub four_on_each_axis :
    phantom_samples 4 123456789
    ≡ pos 55 ∷ pos 111 ∷ pos 113 ∷ pos 70
    ∷ pos 121 ∷ pos 165 ∷ pos 177 ∷ pos 111
    ∷ pos 117 ∷ pos 169 ∷ pos 179 ∷ pos 110
    ∷ pos 66 ∷ pos 110 ∷ pos 123 ∷ pos 62
    ∷ pos 112 ∷ pos 168 ∷ pos 172 ∷ pos 111
    ∷ pos 171 ∷ pos 225 ∷ pos 232 ∷ pos 180
    ∷ pos 167 ∷ pos 233 ∷ pos 229 ∷ pos 169
    ∷ pos 118 ∷ pos 173 ∷ pos 173 ∷ pos 113
    ∷ pos 124 ∷ pos 178 ∷ pos 179 ∷ pos 117
    ∷ pos 165 ∷ pos 231 ∷ pos 221 ∷ pos 174
    ∷ pos 174 ∷ pos 222 ∷ pos 233 ∷ pos 172
    ∷ pos 119 ∷ pos 180 ∷ pos 166 ∷ pos 123
    ∷ pos 56 ∷ pos 118 ∷ pos 118 ∷ pos 56
    ∷ pos 120 ∷ pos 171 ∷ pos 173 ∷ pos 125
    ∷ pos 123 ∷ pos 169 ∷ pos 167 ∷ pos 112
    ∷ pos 60 ∷ pos 118 ∷ pos 123 ∷ pos 61
    ∷ []
unfolding phantom_samples
four_on_each_axis = refl
