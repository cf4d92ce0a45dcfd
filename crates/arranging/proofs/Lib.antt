mod ArrangedTexts
mod Examples
