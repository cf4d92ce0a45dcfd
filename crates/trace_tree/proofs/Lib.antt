mod Exclusions
